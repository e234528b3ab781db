use Rattle.std.proofs.Common.{◌≡◌, ◌-◌, drop}
use Rattle.lk_types.specs.Votes.{are_votes_above}
use Rattle.lk_messages.proofs.promise.are_from.Given as goal

-- what is left rises above the last position exactly where all do from first on
abbrev pub invariant-loop-vote : goal.invariant-loop-vote
invariant-loop-vote l = are_votes_above l.low (drop l.vote-index l.votes) ≡ are_votes_above (l.fn.first - 1) l.votes
