use Rattle.std.proofs.Common.{rules, arith, ◌≡◌, replicate, subst}
use Rattle.lk_sim.specs.Runs.{AreExecuted}
use Rattle.lk_sim.specs.declared.event.Event.TheVariants.{Tick}
use Rattle.lk_script.proofs.Following.{one_more, cut_short, done}
use Rattle.lk_script.proofs.world_run.WorldRun.tick.Goals as goal

pub returns-in-Some-clause-follows : goal.returns-in-Some-clause-follows
returns-in-Some-clause-follows g c =
    let left = c.happen.ensures.refused c.in-Some.refused (search rules) in (
      c.ticks.counter,
      cut_short g.R.MemoryReplica.behaves
          (Tick c.args.node) c.args.times c.ticks.counter c.args.self.now.world c.ticks.self.world
          c.happen.new.self.world c.in-Some.refused (search rules) c.ticks.invariant.1 left.0,
      omega (arith, c.ticks.invariant.0, left.1),
    )

pub ticks-preserved : goal.ticks-preserved
ticks-preserved g c =
    let did = c.happen.ensures.does (search rules) in (
      omega (arith, c.ticks.invariant.0, did.1),
      one_more g.R.MemoryReplica.behaves
          (Tick c.args.node) c.ticks.counter c.args.self.now.world c.ticks.self.world c.happen.new.self.world
          c.ticks.invariant.1 did.0,
    )

pub returns-clause-follows : goal.returns-clause-follows
returns-clause-follows g c =
    let all : c.ticks.counter ≡ c.args.times = search rules in (
      c.args.times,
      done g.R.MemoryReplica.behaves (Tick c.args.node) c.args.times c.args.self.now.world c.ticks.self.world
          (subst (λ n. AreExecuted g.R.MemoryReplica.behaves
          (replicate n (Tick c.args.node)) c.args.self.now.world c.ticks.self.world) all c.ticks.invariant.1),
      omega (arith, c.ticks.invariant.0, all),
    )
