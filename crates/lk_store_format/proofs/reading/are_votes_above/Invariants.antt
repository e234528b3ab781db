use Rattle.std.proofs.Common.{◌≡◌, drop}
use Rattle.lk_types.specs.Votes.{are_votes_above}
use Rattle.lk_store_format.proofs.reading.are_votes_above.Given as goal

-- what is left rises above the last position exactly where all do
abbrev pub invariant-loop-vote : goal.invariant-loop-vote
invariant-loop-vote l = are_votes_above l.low (drop l.vote-index l.votes) ≡ are_votes_above l.fn.low l.votes
