use Rattle.std.proofs.Common.{rules, refl, inr}
use Rattle.lk_sim.specs.Events.{IsRefused}
use Rattle.lk_sim_nodes.specs.SimNodes.{IsUpAt}
use Rattle.lk_sim.specs.Worlds.{world_state_of}
use Rattle.lk_sim.specs.declared.event.Event.TheVariants as event
use Rattle.lk_sim_nodes.specs.declared.refused.Refused.TheVariants.{WorldMemory}
use Rattle.lk_sim.proofs.compacting.compact.Goals as goal

pub compact_at-requires-clause-up : goal.compact_at-requires-clause-up
compact_at-requires-clause-up g c =
    let u : IsUpAt c.args.parts.now.sim_nodes.items c.in_ok-i.i c.args.number = search rules in
    (c.args.number, u)

pub returns-in_err-compact_at-clause-err : goal.returns-in_err-compact_at-clause-err
returns-in_err-compact_at-clause-err g c =
    let u : IsUpAt c.args.parts.now.sim_nodes.items c.in_ok-i.i c.args.number = search rules in
    let k : IsRefused g.R.MemoryReplica.behaves (world_state_of c.args.parts.now)
    (event.Compact c.args.number) WorldMemory
    (world_state_of c.compact_at.new.parts) =
    inr (refl, (u.1, (c.in_ok-i.i, u.0, u.2, u.3, u.4)), c.in_err-compact_at.ensures.halted c.args.number u) in
    search rules

pub returns-clause-ok : goal.returns-clause-ok
returns-clause-ok g c =
    let u : IsUpAt c.args.parts.now.sim_nodes.items c.in_ok-i.i c.args.number = search rules in
    ((u.1, (c.in_ok-i.i, u.0, u.2, u.3, u.4)), c.in_ok-compact_at.ensures.compacted c.args.number u)
