use Rattle.std.proofs.Common.{ℕ, List, refl, subst}
use Rattle.lk_disk.specs.Disk.{AppendsSome}
use Rattle.lk_summed_disk.proofs.WaitLaws.{waits_failed}
use Rattle.lk_summed_disk.proofs.waiting.hand_over.Goals as goal

pub returns-in_err-append-clause-waits : goal.returns-in_err-append-clause-waits
returns-in_err-append-clause-waits g c honest waits =
    let old = g.D.LogDisk.disk c.args.device.now c.args.side in
    let new = g.D.LogDisk.disk c.append.new.self c.args.side in
    waits_failed c.args.waiting.now _ old new waits c.if-waiting.false refl refl refl
    (subst (λ (l : List ℕ). AppendsSome l old new) c.deref.ensures.value (c.in_err-append.ensures.err honest))
