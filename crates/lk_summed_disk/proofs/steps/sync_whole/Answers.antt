use Rattle.lk_summed_disk.proofs.DiskLaws.{sync_decoded, torn_cut_decoded, torn_cut_holds, torn_kept_decoded}
use Rattle.lk_summed_disk.proofs.DiskLaws.{torn_kept_holds}
use Rattle.lk_summed_disk.proofs.steps.sync_whole.Goals as goal

pub returns-then-place-clause-ok : goal.returns-then-place-clause-ok
returns-then-place-clause-ok g c honest holds =
    sync_decoded c.args.side (g.D.LogDisk.disk c.args.device.now c.args.side)
    (g.D.LogDisk.disk c.sync.new.self c.args.side)
    (c.in_ok-sync.ensures.ok honest)

pub returns-in-Ok-clause-holds : goal.returns-in-Ok-clause-holds
returns-in-Ok-clause-holds g c honest holds =
    torn_cut_holds c.args.side (g.D.LogDisk.disk c.args.device.now c.args.side)
    (g.D.LogDisk.disk c.sync.new.self c.args.side)
    (g.D.LogDisk.disk c.cut.new.self c.args.side)
    c.args.place c.made_whole.result holds
    (c.in_ok-sync.ensures.ok honest) (c.in-Ok.ensures.ok honest) c.made_whole.ensures

pub returns-in-Ok-clause-ok : goal.returns-in-Ok-clause-ok
returns-in-Ok-clause-ok g c honest holds =
    torn_cut_decoded c.args.side (g.D.LogDisk.disk c.args.device.now c.args.side)
    (g.D.LogDisk.disk c.sync.new.self c.args.side)
    (g.D.LogDisk.disk c.cut.new.self c.args.side)
    c.args.place holds (c.in_ok-sync.ensures.ok honest)
    (c.in-Ok.ensures.ok honest)

pub returns-in-Err-clause-holds : goal.returns-in-Err-clause-holds
returns-in-Err-clause-holds g c honest holds =
    torn_kept_holds c.args.side (g.D.LogDisk.disk c.args.device.now c.args.side)
    (g.D.LogDisk.disk c.sync.new.self c.args.side)
    (g.D.LogDisk.disk c.cut.new.self c.args.side)
    c.args.place holds (c.in_ok-sync.ensures.ok honest)
    (c.in-Err.ensures.err honest) c.if-place.false

pub returns-in-Err-clause-ok : goal.returns-in-Err-clause-ok
returns-in-Err-clause-ok g c honest holds =
    torn_kept_decoded c.args.side (g.D.LogDisk.disk c.args.device.now c.args.side)
    (g.D.LogDisk.disk c.sync.new.self c.args.side)
    (g.D.LogDisk.disk c.cut.new.self c.args.side)
    c.args.place holds (c.in_ok-sync.ensures.ok honest)
    (c.in-Err.ensures.err honest)
