use Rattle.std.proofs.Common.{◌∙◌, ap, arith, length}
use Rattle.lk_disk.specs.Disk.{other, contents}
use Rattle.lk_disk.specs.declared.device.Side.{Side}
use Rattle.lk_store_format.proofs.Whole.{file_sound}
use Rattle.lk_log.specs.Stores.{FileNarrows}
use Rattle.lk_log.proofs.ImageLaws.{each_side}
use Rattle.lk_log.proofs.Settle.{narrows, file_same, file_then, flushed_narrows, settled}
use Rattle.lk_log.proofs.opening.cut_and_sync.Goals as goal
use Rattle.lk_log.proofs.Room.{within_then, within_side, synced_room}
use Rattle.lk_disk.proofs.Devices.{passes_on, call_passes}
use Rattle.lk_log.specs.Stores.{cut_calls}

pub returns-in_err-cut_torn_end-clause-narrows : goal.returns-in_err-cut_torn_end-clause-narrows
returns-in_err-cut_torn_end-clause-narrows g c honest es found =
    let old = g.D.LogDisk.disk c.args.device.now in
    let new = g.D.LogDisk.disk c.cut_torn_end.new.device in
    narrows old new (each_side (λ (s : Side). FileNarrows (old s) (new s)) c.args.live
    (c.cut_torn_end.ensures.narrows honest es found) (file_same _ _ (c.cut_torn_end.ensures.beside honest)))

pub returns-in_err-sync-clause-narrows : goal.returns-in_err-sync-clause-narrows
returns-in_err-sync-clause-narrows g c honest es found =
    let old = g.D.LogDisk.disk c.args.device.now in
    let mid = g.D.LogDisk.disk c.cut_torn_end.new.device in
    let new = g.D.LogDisk.disk c.sync.new.self in
    narrows old new
    (each_side (λ (s : Side). FileNarrows (old s) (new s)) c.args.live
    (file_then (old c.args.live) (mid c.args.live) (new c.args.live) (c.cut_torn_end.ensures.narrows honest es found)
    (file_same _ _ (c.in_err-sync.ensures.err honest)))
    (file_same _ _ (c.sync.ensures.beside honest ∙ c.cut_torn_end.ensures.beside honest)))

pub returns-clause-narrows : goal.returns-clause-narrows
returns-clause-narrows g c honest es found =
    let old = g.D.LogDisk.disk c.args.device.now in
    let mid = g.D.LogDisk.disk c.cut_torn_end.new.device in
    let new = g.D.LogDisk.disk c.sync.new.self in
    narrows old new
    (each_side (λ (s : Side). FileNarrows (old s) (new s)) c.args.live
    (file_then (old c.args.live) (mid c.args.live) (new c.args.live) (c.cut_torn_end.ensures.narrows honest es found)
    (flushed_narrows _ _ (c.in_ok-sync.ensures.ok honest)))
    (file_same _ _ (c.sync.ensures.beside honest ∙ c.cut_torn_end.ensures.beside honest)))

pub returns-clause-holds : goal.returns-clause-holds
returns-clause-holds g c honest es found =
    settled (g.D.LogDisk.disk c.cut_torn_end.new.device c.args.live)
    _ (g.D.LogDisk.disk c.args.device.now (other c.args.live)) _ es found.file.whole.fit found.base_first
    (file_sound _ es found.file)
    (c.in_ok-cut_torn_end.ensures.contents honest es found) (c.in_ok-sync.ensures.ok honest)
    (c.sync.ensures.beside honest ∙ c.cut_torn_end.ensures.beside honest) found.older

pub returns-in_err-sync-clause-room : goal.returns-in_err-sync-clause-room
returns-in_err-sync-clause-room g c honest =
    let mid = g.D.LogDisk.disk c.cut_torn_end.new.device in
    let new = g.D.LogDisk.disk c.sync.new.self in
    within_then 0 (g.D.LogDisk.disk c.args.device.now) mid new (c.cut_torn_end.ensures.room honest)
    (within_side 0 c.args.live mid new
    (omega (arith, ap (λ d. length (contents d)) (c.in_err-sync.ensures.err honest))) (c.sync.ensures.beside honest))

pub returns-clause-room : goal.returns-clause-room
returns-clause-room g c honest =
    let mid = g.D.LogDisk.disk c.cut_torn_end.new.device in
    let new = g.D.LogDisk.disk c.sync.new.self in
    within_then 0 (g.D.LogDisk.disk c.args.device.now) mid new (c.cut_torn_end.ensures.room honest)
    (within_side 0 c.args.live mid new
    (omega (arith, synced_room (mid c.args.live) (new c.args.live) (c.in_ok-sync.ensures.ok honest)))
    (c.sync.ensures.beside honest))

pub returns-clause-metered : goal.returns-clause-metered
returns-clause-metered g c metered honest es found =
    passes_on (cut_calls c.args.end c.args.size) (c.in_ok-cut_torn_end.ensures.metered metered honest es found) 1
    (call_passes _ _ (c.in_ok-sync.ensures.metered metered))
