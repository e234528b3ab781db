use Rattle.std.proofs.Common.{◌≡◌, take}
use Rattle.lk_acceptor.proofs.votes.votes_from.Given as goal

abbrev pub invariant-loop-vote : goal.invariant-loop-vote
invariant-loop-vote l = l.from.items ≡ take l.vote-index l.rest
