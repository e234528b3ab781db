-- There are no more sessions than clients.
use Rattle.lk_state.proofs.SessionLaws.{few_sessions}
use Rattle.lk_state.proofs.session.Sessions.as_slice.Goals as goal
use Rattle.std.proofs.Common.{length, arith, ap}

pub returns-clause-few : goal.returns-clause-few
returns-clause-few c = omega (arith, few_sessions c.self.inside.list.items c.self.invariant, ap length c.self.view_is)
