use Rattle.std.proofs.Common.{◌≡◌, ◌++◌}
use Rattle.std.specs.List.{flat_map}
use Rattle.lk_codec.specs.Fronts.{KeepsFront}
use Rattle.std.specs.FinMap as map
use Rattle.lk_locks.specs.Packed.{entry, entries}
use Rattle.lk_locks.proofs.table.LockTable.put_names.Given as goal

abbrev pub invariant-loop-name : goal.invariant-loop-name
invariant-loop-name l = record {
  so_far : l.out.items ++ flat_map (entry l.fn.self.raised) l.name-iterator
      ≡ l.fn.out.items ++ entries l.fn.self.raised (map.entries l.fn.self.names);
  keeps : KeepsFront l.fn.out.items l.out.items;
}
