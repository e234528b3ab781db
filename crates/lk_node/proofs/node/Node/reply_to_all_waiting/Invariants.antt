-- The waits of the clients of the sessions so far have ended.
use Rattle.std.proofs.Common.{◌≡◌}
use Rattle.lk_node.specs.Installing.{EndsFirstWaits}
use Rattle.lk_node.proofs.node.Node.reply_to_all_waiting.Given as goal

abbrev pub invariant-sessions : goal.invariant-sessions
invariant-sessions g l =
    (l.self.learner ≡ l.fn.self.learner)
    × EndsFirstWaits l.fn.self.learner.whole.sessions l.fn.self l.fn.out l.index l.self l.out
