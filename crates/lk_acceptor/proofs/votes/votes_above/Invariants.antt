-- Those above the position, of the votes so far.
use Rattle.std.proofs.Common.{◌≡◌, take}
use Rattle.lk_acceptor.specs.VoteLists.{votes_above}
use Rattle.lk_acceptor.proofs.votes.votes_above.Given as goal

abbrev pub invariant-loop-vote : goal.invariant-loop-vote
invariant-loop-vote l = l.above.items ≡ votes_above l.executed (take l.vote-index l.votes)
