use Rattle.std.proofs.Common.{rules, ◌≡◌, length, take, slice_get, Some, refl, sym, subst, add-one}
use Rattle.std.proofs.lemmas.Option.{slice_get_read}
use Rattle.lk_sim.specs.Runs.{AreExecuted}
use Rattle.lk_sim.specs.Worlds.{world_state_of}
use Rattle.lk_sim.proofs.Running.{passes_next}
use Rattle.lk_sim.proofs.happening.happen_all.Goals as goal

pub returns-in-Err-clause-runs : goal.returns-in-Err-clause-runs
returns-in-Err-clause-runs g c =
    let i = c.events.i in
    let at : slice_get c.args.events.now i ≡ Some c.index-events-i.result =
    slice_get_read c.args.events.now (length c.args.events.now) i c.index-events-i.result refl
    (search rules) (search rules) in
    record {
      last = world_state_of c.events.parts;
      are_executed = c.events.invariant.1;
      stops = (c.index-events-i.result, at, c.in-Err.ensures.err);
    }

pub events-preserved : goal.events-preserved
events-preserved g c =
    let i = c.events.i in
    let at : slice_get c.args.events.now i ≡ Some c.index-events-i.result =
    slice_get_read c.args.events.now (length c.args.events.now) i c.index-events-i.result refl
    (search rules) (search rules) in (
      c.happen.ensures.holds,
      subst (λ k. AreExecuted g.R.MemoryReplica.behaves (take k c.args.events.now) (world_state_of c.args.parts.now)
          (world_state_of c.happen.new.parts)) (sym (add-one i))
          (passes_next g.R.MemoryReplica.behaves c.args.events.now i c.index-events-i.result
          (world_state_of c.args.parts.now) (world_state_of c.events.parts)
          (world_state_of c.happen.new.parts) at c.events.invariant.1 (search rules)),
    )

pub returns-clause-runs : goal.returns-clause-runs
returns-clause-runs g c =
    let all : c.events.i ≡ length c.args.events.now = search rules in
    record {
      last = world_state_of c.events.parts;
      are_executed = subst (λ k. AreExecuted g.R.MemoryReplica.behaves (take k c.args.events.now)
          (world_state_of c.args.parts.now)
          (world_state_of c.events.parts)) all c.events.invariant.1;
      stops = (refl, refl);
    }
