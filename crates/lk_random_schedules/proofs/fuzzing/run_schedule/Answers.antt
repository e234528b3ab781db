use Rattle.std.proofs.Common.{rules, subst, sym, add-one}
use Rattle.lk_random_schedules.specs.Schedules.{Draws}
use Rattle.lk_random_schedules.proofs.Adding.{adds_on}
use Rattle.lk_random_schedules.proofs.fuzzing.run_schedule.Goals as goal

pub events-preserved : goal.events-preserved
events-preserved g c =
    let so_far = c.events.invariant.0 in (
      (
        so_far.0,
        so_far.1,
        subst (λ n. Draws g.R.MemoryReplica.behaves c.args.plan n so_far.0 c.step.new.world)
            (sym (add-one c.events.counter)) (c.events.world, so_far.2, c.in_ok-step.ensures.next),
      ),
      adds_on g.R.MemoryReplica.behaves c.args.world.now c.events.world c.step.new.world c.args.transcript.now
          c.events.transcript c.step.new.transcript c.events.invariant.1 c.in_ok-step.ensures.adds,
    )

pub returns-clause-fuzzes : goal.returns-clause-fuzzes
returns-clause-fuzzes g c =
    let so_far = c.events.invariant.0 in
    record {
      started = so_far.0;
      starts = so_far.1;
      draws = subst (λ n. Draws g.R.MemoryReplica.behaves c.args.plan n so_far.0 c.events.world)
          (search rules) so_far.2;
    }
