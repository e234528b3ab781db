-- The count stands there, and the clients so far.
use Rattle.std.proofs.Common.{◌≡◌, ◌++◌, length, take}
use Rattle.std.specs.List.{flat_map}
use Rattle.lk_codec.specs.Fields.{one, two}
use Rattle.lk_codec.specs.Fronts.{KeepsFront}
use Rattle.lk_locks.proofs.entry.put_sharers.Given as goal

abbrev pub invariant-loop-client : goal.invariant-loop-client
invariant-loop-client l = record {
  so_far : l.out.items ≡ l.fn.out.items ++ (one (length l.clients) ++ flat_map two (take l.client-index l.clients));
  keeps : KeepsFront l.fn.out.items l.out.items;
}
