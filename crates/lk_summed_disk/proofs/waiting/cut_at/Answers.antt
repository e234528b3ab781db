use Rattle.std.proofs.Common.{◌≡◌, ◌∙◌, length, sym, ap, arith}
use Rattle.std.proofs.lemmas.Bool.{true≢false}
use Rattle.lk_disk.specs.Disk.{Disk, contents}
use Rattle.lk_summed_disk.proofs.WaitLaws.{waits_none, cut_length, short_length}
use Rattle.lk_summed_disk.proofs.waiting.cut_at.Goals as goal

pub returns-in_err-cut-clause-waits : goal.returns-in_err-cut-clause-waits
returns-in_err-cut-clause-waits g c honest waits =
    let mid = g.D.LogDisk.disk c.hand_over.new.device c.args.side in
    let new = g.D.LogDisk.disk c.cut.new.self c.args.side in
    let counted = (c.in_ok-hand_over.ensures.waits honest waits).counted c.in_ok-hand_over.ensures.goes_on in
    let short = short_length c.args.len mid new (c.in_err-cut.ensures.err honest) in
    waits_none _ new (omega (arith, counted, short)) (λ on. absurd (true≢false on))

pub returns-clause-waits : goal.returns-clause-waits
returns-clause-waits g c honest waits =
    let mid = g.D.LogDisk.disk c.hand_over.new.device c.args.side in
    let new = g.D.LogDisk.disk c.cut.new.self c.args.side in
    let long : length (contents new) ≡ c.args.len =
    ap (λ (d : Disk). length (contents d)) (c.in_ok-cut.ensures.ok honest)
    ∙ cut_length c.args.len mid (c.in_ok-cut.ensures.within honest) in
    waits_none _ new (omega (arith, long)) (λ on. sym long)
