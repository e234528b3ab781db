use Rattle.std.proofs.Common.{rules, refl, inr}
use Rattle.lk_sim.specs.Events.{IsRefused}
use Rattle.lk_sim_nodes.specs.SimNodes.{IsDownAt}
use Rattle.lk_sim.specs.Worlds.{world_state_of}
use Rattle.lk_sim.specs.declared.event.Event.TheVariants as event
use Rattle.lk_sim_nodes.specs.declared.refused.Refused.TheVariants.{WorldMemory}
use Rattle.lk_sim.proofs.lives.restart.Goals as goal

pub come_up-requires-clause-down : goal.come_up-requires-clause-down
come_up-requires-clause-down g c =
    let d : IsDownAt c.args.parts.now.sim_nodes.items c.in_ok-i.i c.args.number = search rules in
    (c.args.number, d)

pub returns-in_err-come_up-clause-err : goal.returns-in_err-come_up-clause-err
returns-in_err-come_up-clause-err g c =
    let d : IsDownAt c.args.parts.now.sim_nodes.items c.in_ok-i.i c.args.number = search rules in
    let k : IsRefused g.R.MemoryReplica.behaves (world_state_of c.args.parts.now)
    (event.Restart c.args.number) WorldMemory
    (world_state_of c.come_up.new.parts) =
    inr (refl, (d.1, (c.in_ok-i.i, d.0, d.2, d.3, d.4)), c.in_err-come_up.ensures.halted c.args.number d) in
    search rules

pub returns-clause-ok : goal.returns-clause-ok
returns-clause-ok g c =
    let d : IsDownAt c.args.parts.now.sim_nodes.items c.in_ok-i.i c.args.number = search rules in
    ((d.1, (c.in_ok-i.i, d.0, d.2, d.3, d.4)), c.in_ok-come_up.ensures.back c.args.number d)
