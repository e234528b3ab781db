use Rattle.std.proofs.Common.{◌∙◌, Some, refl, sym, ap, subst}
use Rattle.lk_disk.specs.declared.device.Side.TheVariants.{A, B}
use Rattle.lk_memory_disk.specs.Memory.{Memory, disk_of}
use Rattle.lk_disk.specs.Meters.{trapped}
use Rattle.lk_disk.specs.declared.trap.Trap.TheVariants.{Off}
use Rattle.lk_sim_nodes.specs.Ends.{IsNumberOfEnd}
use Rattle.lk_sim_nodes.specs.declared.sim_node.RunState.TheVariants.{Down}
use Rattle.lk_sim_nodes.proofs.Fitting.{stopped_fit, same_disks, down_fits}
use Rattle.lk_sim_nodes.proofs.Faults.{told_as, told_by, told_fault}
use Rattle.lk_sim_nodes.proofs.Shortness.{same_short, kept_short}
use Rattle.lk_sim_nodes.proofs.outcome.stop_node.Goals as goal

pub returns-then-is_wanting-clause-fits : goal.returns-then-is_wanting-clause-fits
returns-then-is_wanting-clause-fits g c h w f short =
    down_fits _ _ _ h w _ c.trap.new.self refl
    (stopped_fit _ h c.args.sim_node.now.number (disk_of c.args.device) (disk_of c.trap.new.self)
    (elim [
      | A ↦ (0, ap (λ (d : Memory). d.a) c.trap.ensures ∙ ap (λ (d : Memory). d.a) c.stop.ensures.after)
      | B ↦
          (0, ap (λ (d : Memory). d.b) c.trap.ensures ∙ ap (λ (d : Memory). d.b) c.stop.ensures.after)
    ]) f)
    (kept_short (disk_of c.args.device) (disk_of c.trap.new.self)
    (elim [
      | A ↦ (0, ap (λ (d : Memory). d.a) c.trap.ensures ∙ ap (λ (d : Memory). d.a) c.stop.ensures.after)
      | B ↦
          (0, ap (λ (d : Memory). d.b) c.trap.ensures ∙ ap (λ (d : Memory). d.b) c.stop.ensures.after)
    ]) short)

pub returns-clause-fits : goal.returns-clause-fits
returns-clause-fits g c h w f short =
    down_fits _ _ _ h w _ c.trap-2.new.self refl
    (same_disks _ h c.args.sim_node.now.number (disk_of c.args.device) (disk_of c.trap-2.new.self)
    (elim [ A ↦ ap (λ (z : Memory). z.a) c.trap-2.ensures | B ↦ ap (λ (z : Memory). z.b) c.trap-2.ensures ]) f)
    (same_short (disk_of c.args.device) (disk_of c.trap-2.new.self)
    (elim [ A ↦ ap (λ (z : Memory). z.a) c.trap-2.ensures | B ↦ ap (λ (z : Memory). z.b) c.trap-2.ensures ]) short)

pub returns-then-is_wanting-clause-halted : goal.returns-then-is_wanting-clause-halted
returns-then-is_wanting-clause-halted g c =
    ap Down (c.trap.ensures ∙ ap (λ (d : Memory). record d { meter = trapped Off d.meter }) c.stop.ensures.after)

pub returns-clause-told : goal.returns-clause-told
returns-clause-told g c sound =
    told_as _ _ (ap Some c.ended_by.ensures)
    (told_by c.stopping-stop.result _ c.number.result
    (subst IsNumberOfEnd (sym c.number.ensures)
    (told_fault c.args.fault c.args.device (c.is_wanting.ensures.no_want c.if-is_wanting.false) sound)))
