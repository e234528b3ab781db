-- What is listed, and what is still read, are all of them.
use Rattle.std.proofs.Common.{◌≡◌, ◌-◌, [], Some}
use Rattle.lk_codec.specs.FieldReading.{read_vote}
use Rattle.lk_codec.specs.Parser.{many}
use Rattle.lk_codec.proofs.Spellings.{with_front}
use Rattle.lk_messages.proofs.promise.Votes.to_vec.Given as goal

abbrev pub invariant-loop : goal.invariant-loop
invariant-loop l = with_front l.list.items (many read_vote (l.count - l.counter) l.rest) ≡ Some (l.fn.self, [])
