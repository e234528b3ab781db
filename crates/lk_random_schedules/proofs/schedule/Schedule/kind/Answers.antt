use Rattle.lk_random_schedules.proofs.schedule.Schedule.kind.Goals as goal

pub returns : goal.returns
returns c = c.of-kind.ensures c.args.plan
