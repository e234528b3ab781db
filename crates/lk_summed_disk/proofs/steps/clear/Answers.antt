use Rattle.std.proofs.Common.{refl}
use Rattle.lk_summed_disk.proofs.DiskLaws.{clear_holds, clear_short, cut_sound}
use Rattle.lk_summed_disk.proofs.steps.clear.Goals as goal

pub returns-in-Err-clause-holds : goal.returns-in-Err-clause-holds
returns-in-Err-clause-holds g c honest sound =
    cut_sound c.args.side 0 (g.D.LogDisk.disk c.args.device.now c.args.side)
    (g.D.LogDisk.disk c.cut.new.self c.args.side) sound (c.in-Err.ensures.err honest)

pub returns-in-Err-clause-err : goal.returns-in-Err-clause-err
returns-in-Err-clause-err g c honest =
    clear_short c.args.side (g.D.LogDisk.disk c.args.device.now c.args.side)
    (g.D.LogDisk.disk c.cut.new.self c.args.side) (c.in-Err.ensures.err honest)

pub returns-in-Ok-clause-holds : goal.returns-in-Ok-clause-holds
returns-in-Ok-clause-holds g c honest sound =
    clear_holds c.args.side (g.D.LogDisk.disk c.args.device.now c.args.side)
    (g.D.LogDisk.disk c.cut.new.self c.args.side) _ (c.in-Ok.ensures.ok honest) refl refl refl
