use Rattle.std.proofs.Common.{◌≡◌, ◌-◌}
use Rattle.std.specs.FinMap as map
use Rattle.lk_codec.specs.Parser.{many}
use Rattle.lk_codec.proofs.Spellings.{with_front}
use Rattle.lk_locks.specs.Packed.{read_entry}
use Rattle.lk_locks.proofs.machine.read_entries.Given as goal

abbrev pub invariant-loop : goal.invariant-loop
invariant-loop l = record {
  so_far : with_front (map.entries l.table.names)
      (many (read_entry l.raised) (l.count - l.counter) l.rest) ≡ many (read_entry l.raised) l.count l.bytes;
  size : map.len l.table.names ≡ l.counter;
  version : l.table.raised ≡ l.raised;
}
