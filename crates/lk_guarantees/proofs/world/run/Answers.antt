use Rattle.lk_guarantees.proofs.Clauses.{guaranteed, ran, runs_end_so}
use Rattle.lk_guarantees.proofs.world.run.Goals as goal

pub returns-clause-guaranteed : goal.returns-clause-guaranteed
returns-clause-guaranteed c = guaranteed c.run.new.self c.run.ensures.guaranteed

pub returns-clause-runs : goal.returns-clause-runs
returns-clause-runs c = ran c.args.world.now c.args.events.now c.run.result c.run.new.self c.run.ensures.runs

pub returns-clause-ends : goal.returns-clause-ends
returns-clause-ends c = runs_end_so c.args.world.now c.args.events.now c.run.result c.run.new.self c.run.ensures.runs
