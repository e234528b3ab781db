use Rattle.std.proofs.Common.{◌≡◌, ◌-◌}
use Rattle.lk_codec.specs.FieldReading.{read_vote}
use Rattle.lk_codec.specs.Parser.{many}
use Rattle.lk_codec.proofs.Spellings.{with_front}
use Rattle.lk_store_format.proofs.reading.many_votes.Given as goal

abbrev pub invariant-loop : goal.invariant-loop
invariant-loop l =
    with_front l.votes.items (many read_vote (l.count - l.counter) l.rest) ≡ many read_vote l.count l.bytes
