use Rattle.std.proofs.Common.{rules, ◌∙◌, ap, arith, length}
use Rattle.lk_disk.specs.Disk.{other, contents}
use Rattle.lk_store_format.specs.Entries.{plain}
use Rattle.lk_log.proofs.Room.{some_room, all_room, synced_room}
use Rattle.lk_log.proofs.Steps.{stands_at, keeps_at, torn_piece, grows_holds, holds_piece, holds_same, holds_sync}
use Rattle.lk_log.proofs.Steps.{grows_synced}
use Rattle.lk_log.proofs.adding.add.Goals as goal
use Rattle.lk_disk.specs.Meters.{start}
use Rattle.lk_disk.proofs.Devices.{call_passes}
use Rattle.lk_log.proofs.Metering.{put_unsynced, put_synced, refused}
use Rattle.lk_log.specs.declared.fault.StoreFault.TheVariants.{NoMemory}

-- nothing was written
pub returns-in_err-bytes-clause-every_image : goal.returns-in_err-bytes-clause-every_image
returns-in_err-bytes-clause-every_image g c honest ks ls two holds =
    keeps_at c.args.live _ _ ks ls (plain c.args.entries.now) holds

-- a beginning was added
pub returns-in_err-append_some-clause-every_image : goal.returns-in_err-append_some-clause-every_image
returns-in_err-append_some-clause-every_image g c honest ks ls two holds =
    let old = g.D.LogDisk.disk c.args.device.now in
    let new = g.D.LogDisk.disk c.append_some.new.device in
    stands_at c.args.live (new c.args.live) (new (other c.args.live)) ks _
    (torn_piece (old c.args.live) (old (other c.args.live)) (new c.args.live)
    (new (other c.args.live)) ks ls c.args.entries.now c.deref.result.now (c.deref.ensures ∙ c.in_ok-bytes.ensures)
    two holds c.entries_facts.ensures (c.in_err-append_some.ensures.err honest) (c.append_some.ensures.beside honest))

pub returns-then-not-sync-clause-added : goal.returns-then-not-sync-clause-added
returns-then-not-sync-clause-added g c honest unasked ks ls two holds =
    let old = g.D.LogDisk.disk c.args.device.now in
    let new = g.D.LogDisk.disk c.append_some.new.device in
    holds_piece (old c.args.live) (old (other c.args.live)) (new c.args.live)
    (new (other c.args.live)) ks ls c.args.entries.now c.deref.result.now (c.deref.ensures ∙ c.in_ok-bytes.ensures)
    two holds c.entries_facts.ensures (c.in_ok-append_some.ensures.ok honest) (c.append_some.ensures.beside honest)

pub returns-then-not-sync-clause-every_image : goal.returns-then-not-sync-clause-every_image
returns-then-not-sync-clause-every_image g c honest ks ls two holds =
    let old = g.D.LogDisk.disk c.args.device.now in
    let new = g.D.LogDisk.disk c.append_some.new.device in
    stands_at c.args.live (new c.args.live) (new (other c.args.live)) ks _
    (grows_holds (new c.args.live) (new (other c.args.live)) ks _
    (holds_piece (old c.args.live) (old (other c.args.live)) (new c.args.live)
    (new (other c.args.live)) ks ls c.args.entries.now c.deref.result.now (c.deref.ensures ∙ c.in_ok-bytes.ensures)
    two holds c.entries_facts.ensures (c.in_ok-append_some.ensures.ok honest) (c.append_some.ensures.beside honest)))

pub returns-in_err-sync-clause-every_image : goal.returns-in_err-sync-clause-every_image
returns-in_err-sync-clause-every_image g c honest ks ls two holds =
    let old = g.D.LogDisk.disk c.args.device.now in
    let mid = g.D.LogDisk.disk c.append_some.new.device in
    let new = g.D.LogDisk.disk c.sync.new.self in
    stands_at c.args.live (new c.args.live) (new (other c.args.live)) ks _
    (grows_holds (new c.args.live) (new (other c.args.live)) ks _
    (holds_same (mid c.args.live) (mid (other c.args.live)) (new c.args.live) (new (other c.args.live)) ks _
    (holds_piece (old c.args.live) (old (other c.args.live)) (mid c.args.live)
    (mid (other c.args.live)) ks ls c.args.entries.now c.deref.result.now (c.deref.ensures ∙ c.in_ok-bytes.ensures)
    two holds c.entries_facts.ensures (c.in_ok-append_some.ensures.ok honest) (c.append_some.ensures.beside honest))
    (c.in_err-sync.ensures.err honest) (c.sync.ensures.beside honest)))

pub returns-clause-synced : goal.returns-clause-synced
returns-clause-synced g c honest asked ks ls two holds =
    let old = g.D.LogDisk.disk c.args.device.now in
    let mid = g.D.LogDisk.disk c.append_some.new.device in
    let new = g.D.LogDisk.disk c.sync.new.self in
    holds_sync (mid c.args.live) (mid (other c.args.live)) (new c.args.live) (new (other c.args.live)) ks _
    (holds_piece (old c.args.live) (old (other c.args.live)) (mid c.args.live)
    (mid (other c.args.live)) ks ls c.args.entries.now c.deref.result.now (c.deref.ensures ∙ c.in_ok-bytes.ensures)
    two holds c.entries_facts.ensures (c.in_ok-append_some.ensures.ok honest) (c.append_some.ensures.beside honest))
    (c.in_ok-sync.ensures.ok honest) (c.sync.ensures.beside honest)

pub returns-clause-every_image : goal.returns-clause-every_image
returns-clause-every_image g c honest ks ls two holds =
    let old = g.D.LogDisk.disk c.args.device.now in
    let mid = g.D.LogDisk.disk c.append_some.new.device in
    let new = g.D.LogDisk.disk c.sync.new.self in
    stands_at c.args.live (new c.args.live) (new (other c.args.live)) ks _
    (grows_synced (mid c.args.live) (mid (other c.args.live)) (new c.args.live) (new (other c.args.live)) ks _
    (holds_piece (old c.args.live) (old (other c.args.live)) (mid c.args.live)
    (mid (other c.args.live)) ks ls c.args.entries.now c.deref.result.now (c.deref.ensures ∙ c.in_ok-bytes.ensures)
    two holds c.entries_facts.ensures (c.in_ok-append_some.ensures.ok honest) (c.append_some.ensures.beside honest))
    (c.in_ok-sync.ensures.ok honest) (c.sync.ensures.beside honest))

pub returns-in_err-append_some-clause-grows : goal.returns-in_err-append_some-clause-grows
returns-in_err-append_some-clause-grows g c honest =
    some_room _ _ c.deref.result.now c.args.entries.now
    (c.deref.ensures ∙ c.in_ok-bytes.ensures) c.entries_facts.ensures (c.in_err-append_some.ensures.err honest)

pub returns-then-not-sync-clause-grows : goal.returns-then-not-sync-clause-grows
returns-then-not-sync-clause-grows g c honest =
    all_room _ _ c.deref.result.now c.args.entries.now
    (c.deref.ensures ∙ c.in_ok-bytes.ensures) c.entries_facts.ensures (c.in_ok-append_some.ensures.ok honest)

pub returns-in_err-sync-clause-grows : goal.returns-in_err-sync-clause-grows
returns-in_err-sync-clause-grows g c honest =
    let grown = all_room (g.D.LogDisk.disk c.args.device.now c.args.live)
    (g.D.LogDisk.disk c.append_some.new.device c.args.live) c.deref.result.now c.args.entries.now
    (c.deref.ensures ∙ c.in_ok-bytes.ensures) c.entries_facts.ensures (c.in_ok-append_some.ensures.ok honest) in
    omega (arith, grown, ap (λ d. length (contents d)) (c.in_err-sync.ensures.err honest))

pub returns-clause-grows : goal.returns-clause-grows
returns-clause-grows g c honest =
    let mid = g.D.LogDisk.disk c.append_some.new.device c.args.live in
    let grown = all_room (g.D.LogDisk.disk c.args.device.now c.args.live) mid c.deref.result.now c.args.entries.now
    (c.deref.ensures ∙ c.in_ok-bytes.ensures) c.entries_facts.ensures (c.in_ok-append_some.ensures.ok honest) in
    omega (
      arith,
      grown,
      synced_room mid (g.D.LogDisk.disk c.sync.new.self c.args.live)
          (c.in_ok-sync.ensures.ok honest),
    )

-- ---- which calls were made

pub returns-in_err-bytes-clause-metered : goal.returns-in_err-bytes-clause-metered
returns-in_err-bytes-clause-metered g c metered = refused _ _ _ _ NoMemory c.from_residual.ensures.1 (0, start)

pub returns-then-not-sync-clause-metered : goal.returns-then-not-sync-clause-metered
returns-then-not-sync-clause-metered g c metered =
    put_unsynced _ _ c.args.entries.now c.deref.result.now c.args.sync (c.deref.ensures ∙ c.in_ok-bytes.ensures)
    (search rules) (c.in_ok-append_some.ensures.metered metered)

pub returns-clause-metered : goal.returns-clause-metered
returns-clause-metered g c metered =
    put_synced _ _ _ c.args.entries.now c.deref.result.now c.args.sync
    (c.deref.ensures ∙ c.in_ok-bytes.ensures) (search rules)
    (c.in_ok-append_some.ensures.metered metered) (call_passes _ _ (c.in_ok-sync.ensures.metered metered))
