use Rattle.std.proofs.Common.{◌∙◌, sym, subst, IfOk}
use Rattle.lk_disk.specs.Disk.{Disk}
use Rattle.lk_disk.specs.declared.device.Side.{Side}
use Rattle.lk_summed_disk.specs.Hiding.{shown}
use Rattle.lk_summed_disk.specs.Opened.{IsDamagedOn, IsSoundOn}
use Rattle.lk_summed_disk.specs.Options.{OpensAs}
use Rattle.lk_node_files.specs.Older.{IsReplaced, OpensFiles}
use Rattle.lk_node_files.proofs.OpeningLaws.{alike, one_ok}
use Rattle.lk_node_files.proofs.opening.with_sums.Goals as goal

pub returns-in-Ok-clause-opens : goal.returns-in-Ok-clause-opens
returns-in-Ok-clause-opens g c honest =
    subst (λ (d : Side → Disk). OpensAs (λ x s. shown g.D.LogDisk.disk x s) c.args.sums d c.in-Ok.device)
    (alike (λ s. shown g.D.LogDisk.disk c.new.result s) (g.D.LogDisk.disk c.args.device) c.new.ensures)
    (c.in-Ok.ensures.opens honest)

pub returns-in-Err-clause-opens : goal.returns-in-Err-clause-opens
returns-in-Err-clause-opens g c honest =
    let left : Side → Disk = λ s. shown g.D.LogDisk.disk c.in-Err.refused.device s in
    let first : Side → Disk = λ s. shown g.D.LogDisk.disk c.new.result s in
    let same = alike left first (c.in-Err.ensures.unchanged honest) in
    let was = subst (λ (d : Side → Disk). IsDamagedOn d c.in-Err.refused.fault) (sym same)
    (c.in-Err.ensures.damaged honest) in
    subst (λ (d : Side → Disk). IfOk c.open_refused.result
    (λ o. OpensFiles (λ x s. shown g.D.LogDisk.disk x s) c.args.sums d o.device o.hidden))
    (same ∙ alike first (g.D.LogDisk.disk c.args.device) c.new.ensures) (c.open_refused.ensures.opens honest was)

pub returns-in-Err-clause-damaged : goal.returns-in-Err-clause-damaged
returns-in-Err-clause-damaged g c honest is sound =
    let left : Side → Disk = λ s. shown g.D.LogDisk.disk c.in-Err.refused.device s in
    let first : Side → Disk = λ s. shown g.D.LogDisk.disk c.new.result s in
    let same = alike left first (c.in-Err.ensures.unchanged honest) in
    let was = subst (λ (d : Side → Disk). IsDamagedOn d c.in-Err.refused.fault) (sym same)
    (c.in-Err.ensures.damaged honest) in
    c.open_refused.ensures.damaged honest was is
    (subst (λ (d : Side → Disk). (s : Side) → IsSoundOn d s)
    (sym (same ∙ alike first (g.D.LogDisk.disk c.args.device) c.new.ensures)) sound)

pub returns-in-Err-clause-needed : goal.returns-in-Err-clause-needed
returns-in-Err-clause-needed g c honest is s replaced =
    let left : Side → Disk = λ t. shown g.D.LogDisk.disk c.in-Err.refused.device t in
    let first : Side → Disk = λ t. shown g.D.LogDisk.disk c.new.result t in
    let same = alike left first (c.in-Err.ensures.unchanged honest) in
    let was = subst (λ (d : Side → Disk). IsDamagedOn d c.in-Err.refused.fault) (sym same)
    (c.in-Err.ensures.damaged honest) in
    c.open_refused.ensures.needed honest was is s
    (subst (λ (d : Side → Disk). IsReplaced d s)
    (sym (same ∙ alike first (g.D.LogDisk.disk c.args.device) c.new.ensures)) replaced)

pub returns-in-Err-clause-quiet : goal.returns-in-Err-clause-quiet
returns-in-Err-clause-quiet g c =
    one_ok c.open_refused.result (λ o hidden none. absurd (hidden none)) c.open_refused.ensures.hidden
