use Rattle.std.proofs.Common.{Some}
use Rattle.lk_pacing.proofs.tick_timer.TickTimer.left.Goals as goal

pub returns-in-Ok : goal.returns-in-Ok
returns-in-Ok g c = (Some c.in-Ok.now, (c.left_at.ensures.left, c.left_at.ensures.period))
