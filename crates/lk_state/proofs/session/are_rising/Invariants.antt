-- Those that are left decide.
use Rattle.std.proofs.Common.{◌≡◌, drop}
use Rattle.lk_state.specs.Sessions.{are_sessions_above}
use Rattle.lk_state.proofs.session.are_rising.Given as goal

abbrev pub invariant-loop-session : goal.invariant-loop-session
invariant-loop-session l = are_sessions_above l.low (drop l.session-index l.sessions) ≡ are_sessions_above 0 l.sessions
