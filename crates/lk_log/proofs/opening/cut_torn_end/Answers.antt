use Rattle.std.proofs.Common.{refl, arith}
use Rattle.lk_log.proofs.Settle.{file_same, cut_narrows, short_narrows, cut_contents, nothing_behind}
use Rattle.lk_log.proofs.opening.cut_torn_end.Goals as goal
use Rattle.lk_log.proofs.Room.{within_same, within_side, cut_short_room, cut_room}
use Rattle.lk_disk.proofs.Devices.{call_breaks}
use Rattle.lk_log.proofs.Metering.{none_made, one_made, broken, no_cut, one_cut}

pub returns-then-size-end-clause-contents : goal.returns-then-size-end-clause-contents
returns-then-size-end-clause-contents g c honest es found =
    nothing_behind (g.D.LogDisk.disk c.args.device.now c.args.live) es found.file.whole
    (omega (arith, found.ends, found.sized))

pub returns-then-size-end-clause-narrows : goal.returns-then-size-end-clause-narrows
returns-then-size-end-clause-narrows g c honest es found = file_same _ _ refl

pub returns-in_err-cut-clause-narrows : goal.returns-in_err-cut-clause-narrows
returns-in_err-cut-clause-narrows g c honest es found =
    short_narrows _ _ c.args.end es found.file found.ends (c.in_err-cut.ensures.err honest)

pub returns-clause-contents : goal.returns-clause-contents
returns-clause-contents g c honest es found =
    cut_contents (g.D.LogDisk.disk c.args.device.now c.args.live)
    (g.D.LogDisk.disk c.cut.new.self c.args.live) c.args.end es found.file.whole found.ends
    (c.in_ok-cut.ensures.ok honest)

pub returns-clause-narrows : goal.returns-clause-narrows
returns-clause-narrows g c honest es found =
    cut_narrows _ _ c.args.end es found.file found.ends (c.in_ok-cut.ensures.ok honest)

pub returns-then-size-end-clause-room : goal.returns-then-size-end-clause-room
returns-then-size-end-clause-room g c honest =
    within_same 0 (g.D.LogDisk.disk c.args.device.now) (g.D.LogDisk.disk c.args.device.now) (λ s. refl)

pub returns-in_err-cut-clause-room : goal.returns-in_err-cut-clause-room
returns-in_err-cut-clause-room g c honest =
    let old = g.D.LogDisk.disk c.args.device.now in
    let new = g.D.LogDisk.disk c.cut.new.self in
    within_side 0 c.args.live old new
    (omega (arith, cut_short_room c.args.end (old c.args.live) (new c.args.live) (c.in_err-cut.ensures.err honest)))
    (c.cut.ensures.beside honest)

pub returns-clause-room : goal.returns-clause-room
returns-clause-room g c honest =
    let old = g.D.LogDisk.disk c.args.device.now in
    let new = g.D.LogDisk.disk c.cut.new.self in
    within_side 0 c.args.live old new
    (omega (arith, cut_room c.args.end (old c.args.live) (new c.args.live) (c.in_ok-cut.ensures.ok honest)))
    (c.cut.ensures.beside honest)

-- ---- which calls were made

pub returns-then-size-end-clause-metered : goal.returns-then-size-end-clause-metered
returns-then-size-end-clause-metered g c metered honest es found =
    none_made _ _ (no_cut c.args.end c.args.size c.if-size-end.true)

pub returns-in_err-cut-clause-metered : goal.returns-in_err-cut-clause-metered
returns-in_err-cut-clause-metered g c metered honest es found =
    broken _ _ _ _ _ c.from_residual.ensures.1
    (call_breaks _ _ (c.in_err-cut.ensures.metered honest metered (omega (arith, c.if-size-end.false, found.sized))))

pub returns-clause-metered : goal.returns-clause-metered
returns-clause-metered g c metered honest es found =
    one_made _ _ _ (one_cut c.args.end c.args.size c.if-size-end.false)
    (c.in_ok-cut.ensures.metered honest metered (omega (arith, c.if-size-end.false, found.sized)))
