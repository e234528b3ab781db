use Rattle.std.proofs.Common.{rules, ap, refl, inl, subst, List}
use Rattle.lk_disk.specs.Disk.{contents, other}
use Rattle.lk_store_format.specs.Standings.{HasHeader}
use Rattle.lk_store_format.specs.declared.stored.Stored.{Stored}
use Rattle.lk_log.specs.Images.{seen}
use Rattle.lk_log.proofs.BeginLaws.{begins_same, begins_after}
use Rattle.lk_log.proofs.ImageLaws.{found_is_live}
use Rattle.lk_log.proofs.RecoverLaws.{ok_then, both, neither, found_after, empty_after, opens_before}
use Rattle.lk_log.proofs.StoreLaws.{not_both}
use Rattle.lk_log.proofs.reopening.recover.Goals as goal
use Rattle.lk_log.proofs.Room.{within_same, within_then, within_more}
use Rattle.lk_types.specs.Limits.{max_base_of}
use Rattle.lk_log.proofs.Metering.{found_opens}
use Rattle.lk_log.proofs.OpenMetering.{opens_metered}

pub returns-in_err-live-clause-stays : goal.returns-in_err-live-clause-stays
returns-in_err-live-clause-stays g c honest =
    begins_same (g.D.LogDisk.disk c.args.device.now)
    (g.D.LogDisk.disk c.find.new.device) c.args.header.now c.args.zero.now (c.find.ensures.unchanged honest)

pub returns-else-not-has_header-clause-opens : goal.returns-else-not-has_header-clause-opens
returns-else-not-has_header-clause-opens g c honest =
    let old = g.D.LogDisk.disk c.args.device.now in
    let mid = g.D.LogDisk.disk c.find.new.device in
    let new = g.D.LogDisk.disk c.open.new.device in
    let same = c.find.ensures.unchanged honest in
    let found = rw c.in-Some.is at (c.in_ok-live.ensures.live honest) in
    ok_then c.open.result _ _
    (λ o p. opens_before old mid same c.args.header.now c.args.zero.now (new o.live)
    (new (other o.live)) o.generation o.format o.standing p)
    (c.open.ensures.opens honest
    (found_after old mid same c.in-Some.live c.in-Some.file.entries.items c.in-Some.file.end c.in-Some.file.size found)
    c.args.header.now c.args.zero.now
    (subst (λ (l : List Stored). HasHeader l c.args.header.now) c.deref.ensures.value
    (c.has_header.ensures.0 (search rules))))

-- where a file is live nothing is empty
pub returns-else-not-has_header-clause-starts_in_a : goal.returns-else-not-has_header-clause-starts_in_a
returns-else-not-has_header-clause-starts_in_a g c honest empty =
    let old = g.D.LogDisk.disk c.args.device.now in
    let found = rw c.in-Some.is at (c.in_ok-live.ensures.live honest) in
    absurd (not_both (seen old) c.in-Some.file.entries.items
    (found_is_live old c.in-Some.live c.in-Some.file.entries.items c.in-Some.file.end c.in-Some.file.size found) empty)

pub returns-else-not-has_header-clause-is_new : goal.returns-else-not-has_header-clause-is_new
returns-else-not-has_header-clause-is_new g c honest =
    let old = g.D.LogDisk.disk c.args.device.now in
    let found = rw c.in-Some.is at (c.in_ok-live.ensures.live honest) in
    ok_then c.open.result _ _
    (λ o is_old. neither (not_both (seen old) c.in-Some.file.entries.items
    (found_is_live old c.in-Some.live c.in-Some.file.entries.items c.in-Some.file.end c.in-Some.file.size found))
    is_old)
    c.open.ensures.is_old

pub returns-in-None-clause-is_new : goal.returns-in-None-clause-is_new
returns-in-None-clause-is_new g c honest =
    ok_then c.create_store.result _ _ (λ o is_new. both is_new
    (c.in_ok-live.ensures.empty honest (cc))) c.create_store.ensures.is_new

pub returns-else-not-has_header-clause-stays : goal.returns-else-not-has_header-clause-stays
returns-else-not-has_header-clause-stays g c honest =
    let old = g.D.LogDisk.disk c.args.device.now in
    let mid = g.D.LogDisk.disk c.find.new.device in
    let new = g.D.LogDisk.disk c.open.new.device in
    let same = c.find.ensures.unchanged honest in
    let found = rw c.in-Some.is at (c.in_ok-live.ensures.live honest) in
    begins_after old mid new c.args.header.now c.args.zero.now same (λ s. ap contents (same s))
    (c.open.ensures.stays honest
    (found_after old mid same c.in-Some.live c.in-Some.file.entries.items c.in-Some.file.end c.in-Some.file.size found)
    c.args.header.now c.args.zero.now)

-- another's store
pub returns-then-not-has_header-clause-stays : goal.returns-then-not-has_header-clause-stays
returns-then-not-has_header-clause-stays g c honest =
    begins_same (g.D.LogDisk.disk c.args.device.now)
    (g.D.LogDisk.disk c.find.new.device) c.args.header.now c.args.zero.now (c.find.ensures.unchanged honest)

pub returns-then-not-has_header-clause-room : goal.returns-then-not-has_header-clause-room
returns-then-not-has_header-clause-room g c honest =
    within_same (max_base_of c.args.header.now.alpha) (g.D.LogDisk.disk c.args.device.now)
    (g.D.LogDisk.disk c.find.new.device) (c.find.ensures.unchanged honest)

pub returns-then-not-has_header-clause-wrong : goal.returns-then-not-has_header-clause-wrong
returns-then-not-has_header-clause-wrong g c honest e =
    let old = g.D.LogDisk.disk c.args.device.now in
    let found = rw c.in-Some.is at (c.in_ok-live.ensures.live honest) in
    let other : HasHeader c.in-Some.file.entries.items c.args.header.now → ⊥ = λ own. search rules in (
      (
        c.in-Some.file.entries.items,
        found_is_live old c.in-Some.live c.in-Some.file.entries.items c.in-Some.file.end c.in-Some.file.size found,
        other,
      ),
      c.find.ensures.unchanged honest,
    )

pub returns-then-not-has_header-clause-metered : goal.returns-then-not-has_header-clause-metered
returns-then-not-has_header-clause-metered g c metered honest = (0, c.in_ok-live.ensures.metered metered honest)

pub returns-in-None-clause-opens : goal.returns-in-None-clause-opens
returns-in-None-clause-opens g c honest =
    let old = g.D.LogDisk.disk c.args.device.now in
    let mid = g.D.LogDisk.disk c.find.new.device in
    let new = g.D.LogDisk.disk c.create_store.new.device in
    let same = c.find.ensures.unchanged honest in
    let empty = c.in_ok-live.ensures.empty honest (cc) in
    ok_then c.create_store.result _ _
    (λ o p. opens_before old mid same c.args.header.now c.args.zero.now (new o.live)
    (new (other o.live)) o.generation o.format o.standing p)
    (c.create_store.ensures.opens honest (empty_after old mid same empty))

pub returns-in-None-clause-stays : goal.returns-in-None-clause-stays
returns-in-None-clause-stays g c honest =
    let old = g.D.LogDisk.disk c.args.device.now in
    let mid = g.D.LogDisk.disk c.find.new.device in
    let new = g.D.LogDisk.disk c.create_store.new.device in
    let same = c.find.ensures.unchanged honest in
    let empty = c.in_ok-live.ensures.empty honest (cc) in
    begins_after old mid new c.args.header.now c.args.zero.now same (λ s. ap contents (same s))
    (c.create_store.ensures.stays honest (empty_after old mid same empty))

pub returns-in_err-live-clause-room : goal.returns-in_err-live-clause-room
returns-in_err-live-clause-room g c honest =
    within_same (max_base_of c.args.header.now.alpha) (g.D.LogDisk.disk c.args.device.now)
    (g.D.LogDisk.disk c.find.new.device) (c.find.ensures.unchanged honest)

pub returns-else-not-has_header-clause-room : goal.returns-else-not-has_header-clause-room
returns-else-not-has_header-clause-room g c honest =
    let old = g.D.LogDisk.disk c.args.device.now in
    let mid = g.D.LogDisk.disk c.find.new.device in
    let new = g.D.LogDisk.disk c.open.new.device in
    let most = max_base_of c.args.header.now.alpha in
    within_then most old mid new (within_same 0 old mid (c.find.ensures.unchanged honest))
    (within_more most mid new (c.open.ensures.room honest))

pub returns-in-None-clause-room : goal.returns-in-None-clause-room
returns-in-None-clause-room g c honest =
    let old = g.D.LogDisk.disk c.args.device.now in
    let mid = g.D.LogDisk.disk c.find.new.device in
    within_then (max_base_of c.args.header.now.alpha) old mid (g.D.LogDisk.disk c.create_store.new.device)
    (within_same 0 old mid (c.find.ensures.unchanged honest)) (c.create_store.ensures.room honest)

-- ---- which calls were made

pub returns-else-not-has_header-clause-metered : goal.returns-else-not-has_header-clause-metered
returns-else-not-has_header-clause-metered g c metered honest =
    let old = g.D.LogDisk.disk c.args.device.now in
    let mid = g.D.LogDisk.disk c.find.new.device in
    let found = rw c.in-Some.is at (c.in_ok-live.ensures.live honest) in
    opens_metered _ _ _ _ _ c.open.result (c.in_ok-live.ensures.metered metered honest)
    (found_opens old c.in-Some.live c.in-Some.file.entries.items c.in-Some.file.end c.in-Some.file.size found)
    (c.open.ensures.metered metered honest
    (found_after old mid (c.find.ensures.unchanged honest) c.in-Some.live c.in-Some.file.entries.items
    c.in-Some.file.end c.in-Some.file.size found))

pub returns-in-None-clause-metered : goal.returns-in-None-clause-metered
returns-in-None-clause-metered g c metered honest =
    opens_metered _ _ _ _ 3 c.create_store.result (c.in_ok-live.ensures.metered metered honest)
    (inl (c.find.ensures.empty honest (search rules), refl)) (c.create_store.ensures.metered metered honest)
