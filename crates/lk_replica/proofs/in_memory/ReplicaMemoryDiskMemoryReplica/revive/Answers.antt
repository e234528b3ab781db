use Rattle.std.proofs.Common.{◌≡◌, ℕ, ◌+◌, ◌≤◌, List, [], Result, Ok, Err, IfOk, MatchResult}
use Rattle.std.specs.Prelude.{IfErr}
use Rattle.lk_types.specs.Limits.{max_base_of}
use Rattle.lk_store_format.specs.Values.{HeaderValue}
use Rattle.lk_log.specs.Rooms.{StaysWithin}
use Rattle.lk_disk.specs.Disk.{Disk}
use Rattle.lk_memory_disk.specs.Memory.{Memory, disk_of}
use Rattle.lk_disk.specs.Meters.{CallsSucceed}
use Rattle.lk_disk.specs.declared.device.Side.{Side}
use Rattle.lk_disk.specs.declared.meter.Meter.{Meter}
use Rattle.lk_state.specs.Meanings.{Meaning}
use Rattle.lk_node.specs.Calls.{LeavesFit}
use Rattle.lk_node.specs.Keeping.{ReplicaHolds}
use Rattle.lk_node.specs.Leavings.{AllCover}
use Rattle.lk_node_interface.specs.Faults.{fault_number, failures_by, RefusedAfter}
use Rattle.lk_recovery.specs.Revivals.{IsRefusedFor, CallsOfRevival}
use Rattle.lk_replica.specs.Revived.{IsNotRevived}
use Rattle.lk_replica.proofs.OnDevices.{on_device}
use Rattle.lk_replica.proofs.in_memory.ReplicaMemoryDiskMemoryReplica.revive.Goals as goal

-- what follows of what stands at Ok
if_ok : {A E : Type 0} (P Q : A → Type 0) (X : E → Type 0) (r : Result A E) → ((x : A) → P x → Q x)
    → MatchResult r P X → IfOk r Q
if_ok P Q X (Ok x) f p = f x p
if_ok P Q X (Err e) f p = tt

-- and at a refusal
if_err : {A E : Type 0} (P : A → Type 0) (X : E → Type 0) (r : Result A E) → MatchResult r P X → IfErr r X
if_err P X (Ok x) p = tt
if_err P X (Err e) p = p

-- and of three facts at Ok, the first of them beside another
all_ok : {A E : Type 0} (P O Q S : A → Type 0) (X Y : E → Type 0) (r : Result A E) → IfOk r (λ x. P x × O x)
    → MatchResult r Q X → MatchResult r S Y → IfOk r (λ x. P x × Q x × S x)
all_ok P O Q S X Y (Ok x) p q s = (p.0, q, s)
all_ok P O Q S X Y (Err e) p q s = tt

-- and of what stands at a refusal
not_revived : {A E : Type 0} (m : Meaning) (IsText : List ℕ → Type 0) (device : Memory) (whose : HeaderValue)
    (r : Result A E) (number : E → ℕ) (left : E → Memory) (X Y : A → Type 0)
    → MatchResult r X (λ e. (7 ≤ number e) × (number e ≤ 11)
    × ((left e).failures ≡ failures_by (number e) device.failures))
    → MatchResult r Y (λ e. RefusedAfter (number e) device.meter (left e).meter)
    → IfErr r (λ e. IsRefusedFor m IsText (disk_of device) whose (number e) (disk_of (left e)))
    → IfErr r (λ e. IsNotRevived m IsText device whose (number e) (left e))
not_revived m IsText device whose (Ok x) number left X Y cause calls refused = tt
not_revived m IsText device whose (Err e) number left X Y cause calls refused =
    record { failures = cause.2; calls = calls; cause = refused; only = (cause.0, cause.1) }

-- so many calls of its device have passed
passed : {A E : Type 0} (d : Side → Disk) (l : Meter) (now : A → Meter) (Y : E → Type 0) (r : Result A E)
    → MatchResult r (λ x. CallsOfRevival d l (now x)) Y → IfOk r (λ x. (k : ℕ) × CallsSucceed l (now x) k)
passed d l now Y (Ok x) c = (c.0 + c.1, c.4)
passed d l now Y (Err e) c = tt

pub returns-clause-calls : goal.returns-clause-calls
returns-clause-calls g c =
    passed (disk_of c.args.device) c.args.device.meter (λ r. r.replica.store.meter) _ c.revive.result
    (c.revive.ensures.metered tt tt)

pub returns-clause-up : goal.returns-clause-up
returns-clause-up g c h n whose lawful fits =
    let m : Meaning = g.M.Machine.meaning in
    if_ok _ _ _ c.revive.result
    (λ r goes. on_device (λ d. LeavesFit m h n
    (ReplicaHolds m r.replica.node r.replica.store h.genesis n) d r.notes.items [])
    r.replica.store goes)
    (c.revive.ensures.fits tt h n whose lawful fits)

pub returns-clause-down : goal.returns-clause-down
returns-clause-down g c h n whose lawful fits =
    if_err _ _ c.revive.result (c.revive.ensures.fits tt h n whose lawful fits)

pub returns-clause-covers : goal.returns-clause-covers
returns-clause-covers g c genesis n x whose every =
    let m : Meaning = g.M.Machine.meaning in
    if_ok _ _ _ c.revive.result (λ r cover. on_device (λ d. AllCover m genesis n d x) r.replica.store cover)
    (c.revive.ensures.covers tt genesis n x whose every)

pub returns-clause-covers_err : goal.returns-clause-covers_err
returns-clause-covers_err g c genesis n x whose every =
    if_err _ _ c.revive.result (c.revive.ensures.covers tt genesis n x whose every)

pub returns-clause-exact : goal.returns-clause-exact
returns-clause-exact g c =
    all_ok _ _ _ _ _ _ c.revive.result (c.revive.ensures.exact tt) c.revive.ensures.cause
    (c.revive.ensures.metered tt tt)

pub returns-clause-room : goal.returns-clause-room
returns-clause-room g c =
    if_ok _ _ _ c.revive.result
    (λ r room. on_device (λ d. StaysWithin (max_base_of c.args.header.now.alpha) (disk_of c.args.device) d)
    r.replica.store room)
    (c.revive.ensures.room tt)

pub returns-clause-room_err : goal.returns-clause-room_err
returns-clause-room_err g c = if_err _ _ c.revive.result (c.revive.ensures.room tt)

pub returns-clause-refused : goal.returns-clause-refused
returns-clause-refused g c =
    let e = c.revive.ensures in
    not_revived g.M.Machine.meaning g.M.Machine.IsText c.args.device c.args.header.now c.revive.result
    (λ e. fault_number e.fault) (λ e. e.device) _ _
    e.cause (e.metered tt tt) (e.refused tt)
