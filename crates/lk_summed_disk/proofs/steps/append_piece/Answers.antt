use Rattle.std.proofs.Common.{rules}
use Rattle.lk_summed_disk.proofs.DiskLaws.{append_decoded, append_holds, append_some, append_sound, append_begins}
use Rattle.lk_summed_disk.proofs.steps.append_piece.Goals as goal

pub returns-clause-holds : goal.returns-clause-holds
returns-clause-holds g c honest holds =
    append_sound c.args.side (g.D.LogDisk.disk c.args.device.now c.args.side)
    (g.D.LogDisk.disk c.append.new.self c.args.side)
    c.args.piece.now c.deref.result.now c.args.place c.in-Some.form holds
    (search rules) (search rules) (c.in-Err.ensures.err honest)

pub returns-clause-err : goal.returns-clause-err
returns-clause-err g c honest holds =
    append_some c.args.side (g.D.LogDisk.disk c.args.device.now c.args.side)
    (g.D.LogDisk.disk c.append.new.self c.args.side)
    c.args.piece.now c.deref.result.now c.args.place c.in-Some.form holds
    (search rules) (search rules) (c.in-Err.ensures.err honest)

pub returns-in-Ok-clause-holds : goal.returns-in-Ok-clause-holds
returns-in-Ok-clause-holds g c honest holds =
    append_holds c.args.side (g.D.LogDisk.disk c.args.device.now c.args.side)
    (g.D.LogDisk.disk c.append.new.self c.args.side)
    c.args.piece.now c.deref.result.now c.args.place
    c.in-Some-grown.grown holds (search rules) (search rules) (search rules) (search rules)
    (c.in-Ok.ensures.ok honest)

pub returns-in-Ok-clause-ok : goal.returns-in-Ok-clause-ok
returns-in-Ok-clause-ok g c honest holds =
    append_decoded c.args.side (g.D.LogDisk.disk c.args.device.now c.args.side)
    (g.D.LogDisk.disk c.append.new.self c.args.side)
    c.args.piece.now c.deref.result.now c.args.place c.in-Some.form holds
    (search rules) (search rules) (c.in-Ok.ensures.ok honest)

pub returns-in-Ok-clause-begins : goal.returns-in-Ok-clause-begins
returns-in-Ok-clause-begins g c honest holds sums none =
    append_begins c.args.side (g.D.LogDisk.disk c.args.device.now c.args.side)
    (g.D.LogDisk.disk c.append.new.self c.args.side) c.deref.result.now c.args.place holds none
    (c.in-Ok.ensures.ok honest) (search rules)
