use Rattle.lk_healing.proofs.Hands.{RepliesEach}
use Rattle.lk_healing.proofs.serving.hand_replies.Given as goal

abbrev pub invariant-nodes : goal.invariant-nodes
invariant-nodes g l =
    RepliesEach g.M.Machine.meaning g.M.Machine.IsText l.fn.cluster l.fn.leader l.fn.nodes l.fn.vote
    l.fn.world l.i l.world
