use Rattle.std.proofs.Common.{Some}
use Rattle.lk_pacing.proofs.Ticking.{passes_by}
use Rattle.lk_pacing.proofs.tick_timer.TickTimer.has_elapsed.Goals as goal

pub returns-in-Ok : goal.returns-in-Ok
returns-in-Ok g c =
    let e = c.elapses_at.ensures in (
      Some c.in-Ok.now,
      passes_by c.in-Ok.now c.args.self.now.period_from c.elapses_at.new.self.period_from c.elapses_at.result
          e.elapsed e.again e.goes_on,
    )
