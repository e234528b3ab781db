-- Some votes were passed; with those still to be read they are what all is, and rise where all do.
use Rattle.std.proofs.Common.{◌≡◌, ◌++◌, ◌-◌, ◌&&◌, List}
use Rattle.lk_types.specs.declared.vote.Vote.{Vote}
use Rattle.lk_codec.specs.FieldReading.{read_vote}
use Rattle.lk_codec.specs.Parser.{many}
use Rattle.lk_types.specs.Votes.{are_votes_above}
use Rattle.lk_codec.proofs.Spellings.{with_front}
use Rattle.lk_messages.proofs.promise.end_of.Given as goal

abbrev pub invariant-loop : goal.invariant-loop
invariant-loop l = (front : List Vote)
    × (with_front front (many read_vote (l.count - l.counter) l.rest) ≡ many read_vote l.count l.bytes)
    × ((more : List Vote) → are_votes_above l.fn.low (front ++ more) ≡ (l.rising && are_votes_above l.low more))
