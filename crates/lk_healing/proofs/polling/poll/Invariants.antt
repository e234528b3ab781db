use Rattle.lk_healing.proofs.Polls.{PollsEach}
use Rattle.lk_healing.proofs.polling.poll.Given as goal

abbrev pub invariant-nodes : goal.invariant-nodes
invariant-nodes g l =
    PollsEach g.M.Machine.meaning g.M.Machine.IsText l.fn.message l.fn.nodes l.fn.world l.i l.places.items l.world
