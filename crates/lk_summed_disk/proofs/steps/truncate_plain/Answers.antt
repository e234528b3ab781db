use Rattle.std.proofs.Common.{ap, refl, arith}
use Rattle.lk_summed_disk.specs.Readers.{decoded}
use Rattle.lk_summed_disk.proofs.DiskLaws.{cut_sound, plain_short, plain_cut, plain_length, plain_holds}
use Rattle.lk_summed_disk.proofs.steps.truncate_plain.Goals as goal

pub returns-in-Err-clause-holds : goal.returns-in-Err-clause-holds
returns-in-Err-clause-holds g c honest holds =
    cut_sound c.args.side c.args.len (g.D.LogDisk.disk c.args.device.now c.args.side)
    (g.D.LogDisk.disk c.cut.new.self c.args.side)
    holds.sound (c.in-Err.ensures.err honest)

pub returns-in-Err-clause-err : goal.returns-in-Err-clause-err
returns-in-Err-clause-err g c honest holds =
    plain_short c.args.side (g.D.LogDisk.disk c.args.device.now c.args.side)
    (g.D.LogDisk.disk c.cut.new.self c.args.side)
    c.args.len c.args.place holds c.in-Plain.is (c.in-Err.ensures.err honest)

pub returns-in-Err-clause-past_end : goal.returns-in-Err-clause-past_end
returns-in-Err-clause-past_end g c honest holds past =
    let count = plain_length c.args.side (g.D.LogDisk.disk c.args.device.now c.args.side) c.args.place holds
    c.in-Plain.is in
    ap (decoded c.args.side) (c.in-Err.ensures.past_end honest (omega (arith, past, count)))

pub returns-in-Ok-clause-holds : goal.returns-in-Ok-clause-holds
returns-in-Ok-clause-holds g c honest holds =
    plain_holds c.args.side (g.D.LogDisk.disk c.args.device.now c.args.side)
    (g.D.LogDisk.disk c.cut.new.self c.args.side)
    c.args.len c.args.place _ holds c.in-Plain.is c.requires.some
    (c.in-Ok.ensures.within honest) (c.in-Ok.ensures.ok honest) refl refl refl

pub returns-in-Ok-clause-ok : goal.returns-in-Ok-clause-ok
returns-in-Ok-clause-ok g c honest holds =
    plain_cut c.args.side (g.D.LogDisk.disk c.args.device.now c.args.side)
    (g.D.LogDisk.disk c.cut.new.self c.args.side)
    c.args.len c.args.place holds c.in-Plain.is (c.in-Ok.ensures.ok honest)

pub returns-in-Ok-clause-within : goal.returns-in-Ok-clause-within
returns-in-Ok-clause-within g c honest holds =
    let count = plain_length c.args.side (g.D.LogDisk.disk c.args.device.now c.args.side) c.args.place holds
    c.in-Plain.is in
    omega (arith, c.in-Ok.ensures.within honest, count)

pub returns-in-Ok-clause-past_end : goal.returns-in-Ok-clause-past_end
returns-in-Ok-clause-past_end g c honest holds past =
    let count = plain_length c.args.side (g.D.LogDisk.disk c.args.device.now c.args.side) c.args.place holds
    c.in-Plain.is in
    ap (decoded c.args.side) (c.in-Ok.ensures.past_end honest (omega (arith, past, count)))
