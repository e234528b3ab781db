-- The best so far and of the votes so far.
use Rattle.std.proofs.Common.{List, ◌++◌, take}
use Rattle.lk_leader.specs.Values.{PromisedVote, IsBest, promised_by}
use Rattle.lk_leader.proofs.received_promise.ReceivedPromise.best_vote.Given as goal

abbrev pub invariant-loop-vote : goal.invariant-loop-vote
invariant-loop-vote l = (ts : List PromisedVote) → IsBest ts l.fn.best
    → IsBest (ts ++ promised_by l.position
    (record { node = l.self.node; first = l.self.first; votes = take l.vote-index l.self.votes })) l.best
