use Rattle.std.proofs.Common.{◌≡◌, List, ℕ, [], ◌∙◌, subst, arith, rules}
use Rattle.lk_disk.specs.Disk.{Disk, other, CutShort}
use Rattle.lk_disk.specs.declared.device.Side.{Side}
use Rattle.lk_log.specs.Stores.{IsWrittenOver}
use Rattle.lk_log.proofs.RebaseLaws.{beside_live, over_keeps, front_keeps, cut_front, nothing_front, files_switched}
use Rattle.lk_log.proofs.Room.{written_room, within_still, within_side, cut_short_room, cut_room, short_room}
use Rattle.lk_log.proofs.rebasing.switch_files.Goals as goal
use Rattle.lk_disk.proofs.Devices.{passes_on, call_passes}

pub returns-in_err-write_over-clause-every_image : goal.returns-in_err-write_over-clause-every_image
returns-in_err-write_over-clause-every_image g c honest b ks ls holds less two fits piece =
    let old = g.D.LogDisk.disk c.args.device.now in
    let new = g.D.LogDisk.disk c.write_over.new.device in
    let side = c.other-side.ensures in
    let over = subst (λ (k : Side). IsWrittenOver (old k) c.args.bytes.now (new k)) side
    (c.write_over.ensures.every_image honest) in
    over_keeps old new c.args.live b ks ls holds less two fits
    (subst (λ (l : List ℕ). IsWrittenOver (old (other c.args.live)) l (new (other c.args.live))) piece over)
    (beside_live new old c.args.live c.other-side.result side (c.write_over.ensures.beside honest))

pub returns-in_err-cut-clause-every_image : goal.returns-in_err-cut-clause-every_image
returns-in_err-cut-clause-every_image g c honest b ks ls holds less two fits piece =
    let old = g.D.LogDisk.disk c.args.device.now in
    let mid = g.D.LogDisk.disk c.write_over.new.device in
    let new = g.D.LogDisk.disk c.cut.new.self in
    let side = c.other-side.ensures in
    let same : mid c.args.live ≡ old c.args.live =
    beside_live mid old c.args.live c.other-side.result side (c.write_over.ensures.beside honest) in
    let written : mid (other c.args.live) ≡ record { synced = c.args.bytes.now; unsynced = [] } =
    subst (λ (k : Side). mid k ≡ record { synced = c.args.bytes.now; unsynced = [] }) side
    (c.in_ok-write_over.ensures.ok honest) in
    front_keeps old new c.args.live b ks ls holds less two fits
    (c.cut.ensures.beside honest ∙ written ∙ (λ i. record { synced = piece i; unsynced = [] }))
    (cut_front (old c.args.live) (new c.args.live)
    (subst (λ (d : Disk). CutShort 0 d (new c.args.live)) same (c.in_err-cut.ensures.err honest)))

pub returns-clause-holds : goal.returns-clause-holds
returns-clause-holds g c honest b two fits piece =
    let mid = g.D.LogDisk.disk c.write_over.new.device in
    let new = g.D.LogDisk.disk c.cut.new.self in
    let side = c.other-side.ensures in
    let written : mid (other c.args.live) ≡ record { synced = c.args.bytes.now; unsynced = [] } =
    subst (λ (k : Side). mid k ≡ record { synced = c.args.bytes.now; unsynced = [] }) side
    (c.in_ok-write_over.ensures.ok honest) in
    files_switched (new (other c.args.live)) (new c.args.live) b two fits
    (c.cut.ensures.beside honest ∙ written ∙ (λ i. record { synced = piece i; unsynced = [] }))
    (c.in_ok-cut.ensures.ok honest)

pub returns-clause-every_image : goal.returns-clause-every_image
returns-clause-every_image g c honest b ks ls holds less two fits piece =
    let old = g.D.LogDisk.disk c.args.device.now in
    let mid = g.D.LogDisk.disk c.write_over.new.device in
    let new = g.D.LogDisk.disk c.cut.new.self in
    let side = c.other-side.ensures in
    let written : mid (other c.args.live) ≡ record { synced = c.args.bytes.now; unsynced = [] } =
    subst (λ (k : Side). mid k ≡ record { synced = c.args.bytes.now; unsynced = [] }) side
    (c.in_ok-write_over.ensures.ok honest) in
    front_keeps old new c.args.live b ks ls holds less two fits
    (c.cut.ensures.beside honest ∙ written ∙ (λ i. record { synced = piece i; unsynced = [] }))
    (nothing_front (old c.args.live) (new c.args.live) (c.in_ok-cut.ensures.ok honest))

pub returns-in_err-write_over-clause-room : goal.returns-in_err-write_over-clause-room
returns-in_err-write_over-clause-room g c honest most few =
    written_room most c.other-side.result (g.D.LogDisk.disk c.args.device.now)
    (g.D.LogDisk.disk c.write_over.new.device) c.args.bytes.now few (c.write_over.ensures.every_image honest)
    (c.write_over.ensures.beside honest)

pub returns-in_err-cut-clause-room : goal.returns-in_err-cut-clause-room
returns-in_err-cut-clause-room g c honest most few =
    let old = g.D.LogDisk.disk c.args.device.now in
    let mid = g.D.LogDisk.disk c.write_over.new.device in
    let new = g.D.LogDisk.disk c.cut.new.self in
    within_still most old mid new
    (written_room most c.other-side.result old mid c.args.bytes.now few (c.write_over.ensures.every_image honest)
    (c.write_over.ensures.beside honest))
    (within_side 0 c.args.live mid new
    (omega (arith, cut_short_room 0 (mid c.args.live) (new c.args.live) (c.in_err-cut.ensures.err honest)))
    (c.cut.ensures.beside honest))

pub returns-clause-room : goal.returns-clause-room
returns-clause-room g c honest most few =
    let old = g.D.LogDisk.disk c.args.device.now in
    let mid = g.D.LogDisk.disk c.write_over.new.device in
    let new = g.D.LogDisk.disk c.cut.new.self in
    within_still most old mid new
    (written_room most c.other-side.result old mid c.args.bytes.now few (c.write_over.ensures.every_image honest)
    (c.write_over.ensures.beside honest))
    (within_side 0 c.args.live mid new
    (omega (arith, cut_room 0 (mid c.args.live) (new c.args.live) (c.in_ok-cut.ensures.ok honest)))
    (c.cut.ensures.beside honest))

pub returns-clause-short : goal.returns-clause-short
returns-clause-short g c honest most few =
    let mid = g.D.LogDisk.disk c.write_over.new.device in
    let new = g.D.LogDisk.disk c.cut.new.self in
    let written : mid (other c.args.live) ≡ record { synced = c.args.bytes.now; unsynced = [] } =
    subst (λ (k : Side). mid k ≡ record { synced = c.args.bytes.now; unsynced = [] }) c.other-side.ensures
    (c.in_ok-write_over.ensures.ok honest) in
    short_room most (new (other c.args.live)) c.args.bytes.now (c.cut.ensures.beside honest ∙ written) few

-- ---- which calls were made

pub returns-clause-metered : goal.returns-clause-metered
returns-clause-metered g c metered honest =
    passes_on 3 (c.in_ok-write_over.ensures.metered metered honest) 1
    (call_passes _ _ (c.in_ok-cut.ensures.metered honest metered (search rules)))
