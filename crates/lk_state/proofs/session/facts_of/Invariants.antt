-- Those that are left decide.
use Rattle.std.proofs.Common.{drop}
use Rattle.std.specs.List.{AllByRecursion}
use Rattle.lk_state.specs.Sessions.{IsSession}
use Rattle.lk_state.proofs.session.facts_of.Given as goal

abbrev pub invariant-loop-session : goal.invariant-loop-session
invariant-loop-session l =
    AllByRecursion IsSession (drop l.session-index l.sessions) → AllByRecursion IsSession l.sessions
