-- What is read already, and what is still to be read, are what all is.
use Rattle.std.proofs.Common.{◌≡◌, ◌-◌, length}
use Rattle.lk_codec.specs.Parser.{many}
use Rattle.lk_codec.specs.FieldReading.{read_members}
use Rattle.lk_codec.proofs.Spellings.{with_front}
use Rattle.lk_state.proofs.unpacking.many_sets.Given as goal

abbrev pub invariant-loop : goal.invariant-loop
invariant-loop l = record {
  read : with_front l.window (many read_members (l.count - l.counter) l.rest) ≡ many read_members l.count l.bytes;
  count : length l.window ≡ l.counter;
}
