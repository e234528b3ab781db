-- What is read already, and what is still to be read, are what all is.
use Rattle.std.proofs.Common.{◌≡◌, ◌-◌, length}
use Rattle.lk_codec.specs.Parser.{many}
use Rattle.lk_codec.specs.FieldReading.{read_member}
use Rattle.lk_codec.proofs.Loop.{with_front}
use Rattle.lk_codec.proofs.read.many_members.Given as goal

abbrev pub invariant-loop : goal.invariant-loop
invariant-loop l = record {
  read : with_front l.list.items (many read_member (l.count - l.counter) l.rest) ≡ many read_member l.count l.bytes;
  count : length l.list.items ≡ l.counter;
}
