use Rattle.std.proofs.Common.{drop}
use Rattle.std.specs.List.{AllByRecursion}
use Rattle.lk_types.specs.Votes.{IsVote}
use Rattle.lk_store_format.proofs.standing.votes_facts.Given as goal

-- all are in range once those that are left are
abbrev pub invariant-loop-vote : goal.invariant-loop-vote
invariant-loop-vote l = AllByRecursion IsVote (drop l.vote-index l.votes) → AllByRecursion IsVote l.votes
