use Rattle.std.proofs.Common.{◌∙◌, rules}
use Rattle.lk_log.proofs.BeginLaws.{over_short, over_append, over_all, over_whole, over_done}
use Rattle.lk_log.proofs.Metering.{broken}
use Rattle.lk_log.proofs.reopening.write_over.Goals as goal
use Rattle.lk_disk.proofs.Devices.{passes_on, breaks_on, call_passes, call_breaks}

pub returns-in_err-cut-clause-every_image : goal.returns-in_err-cut-clause-every_image
returns-in_err-cut-clause-every_image g c honest =
    over_short (g.D.LogDisk.disk c.args.device.now c.args.side)
    (g.D.LogDisk.disk c.cut.new.self c.args.side) c.args.bytes.now (c.in_err-cut.ensures.err honest)

pub returns-in_err-append-clause-every_image : goal.returns-in_err-append-clause-every_image
returns-in_err-append-clause-every_image g c honest =
    let torn = c.in_err-append.ensures.err honest in
    over_append (g.D.LogDisk.disk c.args.device.now c.args.side) (g.D.LogDisk.disk c.cut.new.self c.args.side)
    (g.D.LogDisk.disk c.append.new.self c.args.side) c.args.bytes.now torn.0 (c.in_ok-cut.ensures.ok honest) torn.1

pub returns-in_err-sync-clause-every_image : goal.returns-in_err-sync-clause-every_image
returns-in_err-sync-clause-every_image g c honest =
    over_all (g.D.LogDisk.disk c.args.device.now c.args.side) (g.D.LogDisk.disk c.cut.new.self c.args.side)
    (g.D.LogDisk.disk c.sync.new.self c.args.side) c.args.bytes.now
    (c.in_ok-cut.ensures.ok honest) (c.in_err-sync.ensures.err honest ∙ c.in_ok-append.ensures.ok honest)

pub returns-clause-ok : goal.returns-clause-ok
returns-clause-ok g c honest =
    over_done (g.D.LogDisk.disk c.args.device.now c.args.side) (g.D.LogDisk.disk c.cut.new.self c.args.side)
    (g.D.LogDisk.disk c.append.new.self c.args.side) (g.D.LogDisk.disk c.sync.new.self c.args.side) c.args.bytes.now
    (c.in_ok-cut.ensures.ok honest) (c.in_ok-append.ensures.ok honest) (c.in_ok-sync.ensures.ok honest)

pub returns-clause-every_image : goal.returns-clause-every_image
returns-clause-every_image g c honest =
    over_whole (g.D.LogDisk.disk c.args.device.now c.args.side)
    (g.D.LogDisk.disk c.sync.new.self c.args.side) c.args.bytes.now
    (over_done (g.D.LogDisk.disk c.args.device.now c.args.side) (g.D.LogDisk.disk c.cut.new.self c.args.side)
    (g.D.LogDisk.disk c.append.new.self c.args.side) (g.D.LogDisk.disk c.sync.new.self c.args.side) c.args.bytes.now
    (c.in_ok-cut.ensures.ok honest) (c.in_ok-append.ensures.ok honest) (c.in_ok-sync.ensures.ok honest))

-- ---- which calls were made

pub returns-in_err-cut-clause-metered : goal.returns-in_err-cut-clause-metered
returns-in_err-cut-clause-metered g c metered honest =
    broken _ _ 3 _ _ c.from_residual.ensures.1
    (call_breaks _ _ (c.in_err-cut.ensures.metered honest metered (search rules)))

pub returns-in_err-append-clause-metered : goal.returns-in_err-append-clause-metered
returns-in_err-append-clause-metered g c metered honest =
    broken _ _ 3 _ _ c.from_residual-in_err-append.ensures.1
    (breaks_on 1 (call_passes _ _ (c.in_ok-cut.ensures.metered honest metered (search rules)))
    (call_breaks _ _ (c.in_err-append.ensures.metered metered)))

pub returns-in_err-sync-clause-metered : goal.returns-in_err-sync-clause-metered
returns-in_err-sync-clause-metered g c metered honest =
    broken _ _ 3 _ _ c.from_residual-in_err-sync.ensures.1
    (breaks_on 2
    (passes_on 1 (call_passes _ _ (c.in_ok-cut.ensures.metered honest metered (search rules))) 1
    (call_passes _ _ (c.in_ok-append.ensures.metered metered)))
    (call_breaks _ _ (c.in_err-sync.ensures.metered metered)))

pub returns-clause-metered : goal.returns-clause-metered
returns-clause-metered g c metered honest =
    passes_on 2
    (passes_on 1 (call_passes _ _ (c.in_ok-cut.ensures.metered honest metered (search rules))) 1
    (call_passes _ _ (c.in_ok-append.ensures.metered metered)))
    1 (call_passes _ _ (c.in_ok-sync.ensures.metered metered))
