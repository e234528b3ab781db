use Rattle.std.proofs.Common.{refl, subst}
use Rattle.std.proofs.lemmas.Result.{on_ok_weaker}
use Rattle.lk_random_schedules.specs.Lines.{IsFurthest, done_line}
use Rattle.lk_random_schedules.proofs.fuzzing.write_run.Goals as goal

pub returns-in-Ok : goal.returns-in-Ok
returns-in-Ok g c = on_ok_weaker c.write_done.result (λ done. (
  done_line c.args.plan.count done.0,
  record {
    begun = c.world_of_three-world.result;
    ended = c.run_schedule.new.world;
    run = record { new_world = c.world_of_three-world.ensures; fuzzes = c.in-Ok.ensures.fuzzes };
    furthest = done.0;
    is_furthest = subst (λ trace. IsFurthest trace done.0) c.trace.ensures done.1;
    line = refl;
  },
  done.2,
)) c.write_done.ensures
