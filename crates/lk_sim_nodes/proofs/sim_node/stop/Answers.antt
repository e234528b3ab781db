use Rattle.std.proofs.Common.{◌∙◌, refl, ap, sym, subst}
use Rattle.lk_disk.specs.declared.device.Side.TheVariants.{A, B}
use Rattle.lk_memory_disk.specs.Memory.{Memory, disk_of}
use Rattle.lk_disk.specs.Meters.{trapped}
use Rattle.lk_disk.specs.declared.trap.Trap.TheVariants.{Off}
use Rattle.lk_node.specs.Leavings.{DisksFit}
use Rattle.lk_sim_nodes.specs.SimNodes.{stopped_on}
use Rattle.lk_sim_nodes.specs.declared.sim_node.RunState.TheVariants.{Down}
use Rattle.lk_sim_nodes.proofs.Fitting.{stopped_fit, down_fits}
use Rattle.lk_sim_nodes.proofs.Shortness.{kept_short}
use Rattle.lk_sim_nodes.proofs.sim_node.stop.Goals as goal

pub returns-clause-fits : goal.returns-clause-fits
returns-clause-fits g c h w f =
    down_fits _ _ _ h w _ c.trap.new.self refl
    (subst (λ k. DisksFit g.R.MemoryReplica.meaning h k (disk_of c.trap.new.self))
    (sym c.remove_device-device.ensures.number)
    (stopped_fit _ h c.args.sim_node.now.number (disk_of c.remove_device-device.result) (disk_of c.trap.new.self)
    (elim [
      | A ↦ (c.args.x, ap (λ (d : Memory). d.a) c.trap.ensures ∙ ap (λ (d : Memory). d.a) c.stop.ensures.after)
      | B ↦ (c.args.y, ap (λ (d : Memory). d.b) c.trap.ensures ∙ ap (λ (d : Memory). d.b) c.stop.ensures.after)
    ])
    (c.remove_device-device.ensures.fits h w f)))
    (kept_short (disk_of c.remove_device-device.result) (disk_of c.trap.new.self)
    (elim [
      | A ↦ (c.args.x, ap (λ (d : Memory). d.a) c.trap.ensures ∙ ap (λ (d : Memory). d.a) c.stop.ensures.after)
      | B ↦ (c.args.y, ap (λ (d : Memory). d.b) c.trap.ensures ∙ ap (λ (d : Memory). d.b) c.stop.ensures.after)
    ])
    (c.remove_device-device.ensures.room h w f))

pub returns-clause-stopped : goal.returns-clause-stopped
returns-clause-stopped g c =
    ap Down (c.trap.ensures ∙ ap (λ (d : Memory). record d { meter = trapped Off d.meter }) c.stop.ensures.after)
    ∙ ap (λ (d : Memory). Down (stopped_on c.args.x c.args.y d)) c.remove_device-device.ensures.is
