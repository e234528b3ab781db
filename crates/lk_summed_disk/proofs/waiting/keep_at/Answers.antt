use Rattle.std.proofs.Common.{refl}
use Rattle.lk_summed_disk.specs.declared.waiting.Waiting.{Waiting}
use Rattle.lk_summed_disk.proofs.WaitLaws.{appended_kept, waits_kept}
use Rattle.lk_summed_disk.proofs.waiting.keep_at.Goals as goal

pub returns-in-Ok-clause-ok : goal.returns-in-Ok-clause-ok
returns-in-Ok-clause-ok g c honest waits =
    let new : Waiting = record c.args.waiting.now { bytes = c.extend_from_slice.new.self } in
    appended_kept c.args.waiting.now new (g.D.LogDisk.disk c.args.device.now c.args.side) c.args.piece.now
    c.in-Ok.ensures.items refl

pub returns-in-Ok-clause-waits : goal.returns-in-Ok-clause-waits
returns-in-Ok-clause-waits g c honest waits =
    let new : Waiting = record c.args.waiting.now { bytes = c.extend_from_slice.new.self } in
    waits_kept c.args.waiting.now new (g.D.LogDisk.disk c.args.device.now c.args.side) c.args.piece.now waits
    c.if-waiting.false c.in-Ok.ensures.items refl refl
