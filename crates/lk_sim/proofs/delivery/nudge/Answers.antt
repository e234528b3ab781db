use Rattle.std.proofs.Common.{rules, refl, inr}
use Rattle.lk_sim.specs.Events.{IsRefused}
use Rattle.lk_sim.specs.Refusals.{HasRoom}
use Rattle.lk_sim_nodes.specs.SimNodes.{IsUpAt}
use Rattle.lk_sim.specs.Worlds.{world_state_of}
use Rattle.lk_sim.specs.declared.event.Event.TheVariants as event
use Rattle.lk_sim_nodes.specs.declared.refused.Refused.TheVariants.{WorldMemory}
use Rattle.lk_sim.proofs.delivery.nudge.Goals as goal

pub returns-in_err-give-clause-err : goal.returns-in_err-give-clause-err
returns-in_err-give-clause-err g c =
    let p = c.args.parts.now in
    let u : IsUpAt p.sim_nodes.items c.in_ok-i.i c.args.number × HasRoom p.sent.items = search rules in
    let k : IsRefused g.R.MemoryReplica.behaves (world_state_of p)
    (event.Nudge c.args.number c.args.reason) WorldMemory (world_state_of c.give.new.parts) =
    inr (
      refl,
      ((u.0.1, (c.in_ok-i.i, u.0.0, u.0.2, u.0.3, u.0.4)), u.1),
      c.in_err-give.ensures.halted c.args.number u.0,
    ) in
    search rules
