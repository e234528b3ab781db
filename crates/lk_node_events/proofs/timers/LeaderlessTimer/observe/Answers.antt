-- What is news is told: no leader is known there.
use Rattle.std.proofs.Common.{inr}
use Rattle.lk_node_events.proofs.timers.LeaderlessTimer.observe.Goals as goal

pub returns-clause-none : goal.returns-clause-none
returns-clause-none c = λ none. inr (c.leaderless_event.ensures.none none)
