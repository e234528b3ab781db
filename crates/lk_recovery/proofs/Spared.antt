-- What a refusal leaves that comes from no failed call of the device.
use Rattle.std.proofs.Common.{◌≡◌, ℕ, ◌+◌, ◌<◌, ◌≤◌, ◌⊎◌, inl, inr, Bool, true, false, List, length, Err, refl, sym, ap}
use Rattle.std.proofs.Common.{subst, ◌∙◌, arith}
use Rattle.std.specs.Prelude.{IsErrOf}
use Rattle.std.proofs.lemmas.Bool.{cases_lt}
use Rattle.lk_types.specs.Limits.{max_count}
use Rattle.lk_disk.specs.Disk.{Disk, contents, other}
use Rattle.lk_disk.specs.declared.device.Side.{Side}
use Rattle.lk_store_format.specs.Values.{HeaderValue}
use Rattle.lk_log.specs.StoreValue.{StoreValue, pick, disks}
use Rattle.lk_log.specs.Stores.{KeepsItsFile, NarrowsOrIsNew}
use Rattle.lk_log.specs.declared.fault.StoreFault.{StoreFault}
use Rattle.lk_log.specs.declared.fault.StoreFault.TheVariants as store
use Rattle.lk_log.specs.declared.fault.OpenFault.{OpenFault}
use Rattle.lk_log.specs.declared.fault.OpenFault.TheVariants as opening
use Rattle.lk_learner.specs.Learners.{executed}
use Rattle.lk_node.specs.NewBases.{snapshot_span}
use Rattle.lk_node.specs.NodeValue.{NodeValue}
use Rattle.lk_recovery.specs.Compacting.{AreSame, AreLeft, IsDue, IsSameStore, KeepsOrSwitchesFiles, RebasesWhereDue}
use Rattle.lk_node_interface.specs.Faults.{IsStoreFault, fault_number, fault_of, open_fault, IfSpared}
use Rattle.lk_node_interface.specs.declared.fault.ReplicaFault.{ReplicaFault}
use Rattle.lk_node_interface.specs.declared.fault.ReplicaFault.TheVariants as fault
use Rattle.lk_recovery.proofs.Refusing.{put_refused}
use Rattle.lk_recovery.proofs.Revivals.{picked}

-- ---- of a refusal of the store

pub spared_all : (P : Type 0) (f : ReplicaFault) → P → IfSpared P f
spared_all P fault.Device p = tt
spared_all P fault.NoMemory p = p
spared_all P fault.Damaged p = p
spared_all P fault.WrongStore p = p
spared_all P fault.Failed p = p
spared_all P fault.Halted p = p
spared_all P (fault.Send notes) p = tt

pub spared_more : (P Q : Type 0) (f : ReplicaFault) → (P → Q) → IfSpared P f → IfSpared Q f
spared_more P Q fault.Device more p = tt
spared_more P Q fault.NoMemory more p = more p
spared_more P Q fault.Damaged more p = more p
spared_more P Q fault.WrongStore more p = more p
spared_more P Q fault.Failed more p = more p
spared_more P Q fault.Halted more p = more p
spared_more P Q (fault.Send notes) more p = tt

-- by its number
pub spared_number : (P : Type 0) (f : ReplicaFault) → IfSpared P f → (fault_number f ≡ 7 → ⊥)
    → (fault_number f ≡ 15 → ⊥) → P
spared_number P fault.Device p device post = absurd (device refl)
spared_number P fault.NoMemory p device post = p
spared_number P fault.Damaged p device post = p
spared_number P fault.WrongStore p device post = p
spared_number P fault.Failed p device post = p
spared_number P fault.Halted p device post = p
spared_number P (fault.Send notes) p device post = absurd (post refl)

by_memory : (P : Type 0) (f : StoreFault) → (IsErrOf {T = Unit {0}} (Err f) store.NoMemory → P)
    → (f ≡ store.Device) ⊎ (f ≡ store.NoMemory) → IfSpared P (fault_of f)
by_memory P f memory by = elim by [
  | inl device ↦ subst (λ z. IfSpared P (fault_of z)) (sym device) tt
  | inr wanting ↦ spared_all P (fault_of f) (memory (ap Err wanting))
]

same_as : (old new : StoreValue) → new ≡ old → AreSame (disks old) (disks new)
same_as old new e s = ap (λ z. disks z s) e

-- of a put
pub put_spares : (old new : StoreValue) (f : StoreFault) → new.live ≡ old.live → new.other_disk ≡ old.other_disk
    → (IsErrOf {T = Unit {0}} (Err f) store.NoMemory → new.live_disk ≡ old.live_disk)
    → (old.failed ≡ true → new ≡ old) → (old.failed ≡ false → (f ≡ store.Device) ⊎ (f ≡ store.NoMemory))
    → IfSpared (AreSame (disks old) (disks new)) (fault_of f)
put_spares old new f live there memory before otherwise = by_state old.failed refl
  where
    by_state : (b : Bool) → old.failed ≡ b → IfSpared (AreSame (disks old) (disks new)) (fault_of f)
    by_state true is = spared_all (AreSame (disks old) (disks new)) (fault_of f) (same_as old new (before is))
    by_state false is = by_memory (AreSame (disks old) (disks new)) f
        (λ wanting s i. pick (live i) (memory wanting i) (there i) s) (otherwise is)

-- of a sync
pub sync_refused : (old : StoreValue) (f : StoreFault)
    → (old.failed ≡ true → IsErrOf {T = Unit {0}} (Err f) store.Failed) → (old.failed ≡ false → f ≡ store.Device)
    → IsStoreFault (fault_number (fault_of f))
sync_refused old f before otherwise = put_refused old f before (λ alive. inl (otherwise alive))

pub sync_spares : (old new : StoreValue) (f : StoreFault) → (old.failed ≡ true → new ≡ old)
    → (old.failed ≡ false → f ≡ store.Device) → IfSpared (AreSame (disks old) (disks new)) (fault_of f)
sync_spares old new f before otherwise = by_state old.failed refl
  where
    by_state : (b : Bool) → old.failed ≡ b → IfSpared (AreSame (disks old) (disks new)) (fault_of f)
    by_state true is = spared_all (AreSame (disks old) (disks new)) (fault_of f) (same_as old new (before is))
    by_state false is = subst (λ z. IfSpared (AreSame (disks old) (disks new)) (fault_of z)) (sym (otherwise is)) tt

-- of a rebase
pub rebase_spares : (old new : StoreValue) (f : StoreFault)
    → (IsErrOf {T = Unit {0}} (Err f) store.NoMemory → AreSame (disks old) (disks new))
    → (old.failed ≡ true → new ≡ old) → (max_count ≤ old.generation → new ≡ old)
    → (old.failed ≡ false → old.generation < max_count → (f ≡ store.Device) ⊎ (f ≡ store.NoMemory))
    → IfSpared (AreSame (disks old) (disks new)) (fault_of f)
rebase_spares old new f memory before last otherwise = by_state old.failed refl
  where
    by_state : (b : Bool) → old.failed ≡ b → IfSpared (AreSame (disks old) (disks new)) (fault_of f)
    by_state true is = spared_all (AreSame (disks old) (disks new)) (fault_of f) (same_as old new (before is))
    by_state false is = elim (cases_lt old.generation max_count) [
      | inl less ↦ by_memory (AreSame (disks old) (disks new)) f memory (otherwise is less)
      | inr most ↦ spared_all (AreSame (disks old) (disks new)) (fault_of f) (same_as old new (last most))
    ]

-- ---- in a row

pub same_files : (old new : StoreValue) → IsSameStore old new → AreSame (disks old) (disks new)
same_files old new same s i = pick (same.live i) (same.live_disk i) (same.other_disk i) s

pub then_same : (old mid new : Side → Disk) → AreSame old mid → AreSame mid new → AreSame old new
then_same old mid new a b s = b s ∙ a s

not_both : (m n : ℕ) → m < n → n ≤ m → ⊥
not_both m n less least = omega (arith, less, least)

either_due : (node : NodeValue) (store : StoreValue) → IsDue node store ⊎ (IsDue node store → ⊥)
either_due node store =
    let old = node.acceptor.state.snapshot_position + snapshot_span node.header.alpha in
    let long = length (contents store.live_disk) in
    elim (cases_lt long 131072) [
      | inl short ↦ elim (cases_lt (executed node.learner) old) [
        | inl near ↦ inr (λ due. elim due [
          | inl most ↦ not_both long 131072 short most
          | inr far ↦ not_both (executed node.learner) old near far
        ])
        | inr far ↦ inl (inr far)
      ]
      | inr most ↦ inl (inl most)
    ]

-- a refusal after what was due was done
pub left_after : (node mid : NodeValue) (old between new : StoreValue) → RebasesWhereDue node old mid between
    → AreSame (disks between) (disks new) → AreLeft node old new
left_after node mid old between new where_due same = elim (either_due node old) [
  | inl due ↦ inr (mid, between, due, where_due.due due, same)
  | inr none ↦
      inl (then_same (disks old) (disks between) (disks new) (same_files old between (where_due.rests none).1) same)
]

-- the same file stays live
pub kept_then : (old mid new : StoreValue) → KeepsItsFile old mid → KeepsItsFile mid new → KeepsItsFile old new
kept_then old mid new a b = (b.0 ∙ a.0, b.1 ∙ a.1, b.2 ∙ a.2, b.3 ∙ a.3)

pub file_after : (node mid : NodeValue) (old between new : StoreValue) → RebasesWhereDue node old mid between
    → KeepsItsFile between new → KeepsOrSwitchesFiles node old new
file_after node mid old between new where_due kept = elim (either_due node old) [
  | inl due ↦ inr (due, kept.1 ∙ (where_due.due due).generation)
  | inr none ↦ let same = (where_due.rests none).1 in
      inl (kept.0 ∙ same.live, kept.1 ∙ same.generation, kept.2 ∙ same.format, kept.3 ∙ same.header)
]

-- where one generation was left and the next one is refused, a rebase was due
pub second_after : (node mid : NodeValue) (old between : StoreValue) → RebasesWhereDue node old mid between
    → (between.generation + 1 ≤ max_count → ⊥) → old.generation < max_count → IsDue node old
second_after node mid old between where_due short less = elim (either_due node old) [
  | inl due ↦ due
  | inr none ↦ absurd (short (omega (arith, less, (where_due.rests none).1.generation)))
]

-- ---- of a revival

-- the device that a store gives back has its disks
pub given_narrow : (old : Side → Disk) (whose : HeaderValue) (text : List ℕ) (s : StoreValue) (d : Side → Disk)
    → d s.live ≡ s.live_disk → d (other s.live) ≡ s.other_disk → NarrowsOrIsNew old (disks s) whose text
    → NarrowsOrIsNew old d whose text
given_narrow old whose text s d here there =
    subst (λ (e : Side → Disk). NarrowsOrIsNew old e whose text)
    (λ i side. sym (picked s.live d s.live_disk s.other_disk here there side) i)

pub damage_only : (f : OpenFault) → fault_number (open_fault f) ≡ 9 → f ≡ opening.Damaged
damage_only opening.Device e = absurd (omega (arith, e))
damage_only opening.NoMemory e = absurd (omega (arith, e))
damage_only opening.Damaged e = refl
damage_only opening.WrongStore e = absurd (omega (arith, e))

pub open_not_failed : (f : OpenFault) → fault_number (open_fault f) ≡ 11 → ⊥
open_not_failed opening.Device e = omega (arith, e)
open_not_failed opening.NoMemory e = omega (arith, e)
open_not_failed opening.Damaged e = omega (arith, e)
open_not_failed opening.WrongStore e = omega (arith, e)

-- a refusal for such a reason is not `Failed`
pub not_failed_so : (f : StoreFault) → (f ≡ store.Device) ⊎ (f ≡ store.NoMemory) → fault_of f ≡ fault.Failed → ⊥
not_failed_so f by is = elim by [
  | inl device ↦ let e : 7 ≡ 11 = sym (ap (λ z. fault_number (fault_of z)) device) ∙ ap fault_number is in
      omega (arith, e)
  | inr memory ↦ let e : 8 ≡ 11 = sym (ap (λ z. fault_number (fault_of z)) memory) ∙ ap fault_number is in
      omega (arith, e)
]

pub sync_not_failed : (f : StoreFault) → f ≡ store.Device → fault_of f ≡ fault.Failed → ⊥
sync_not_failed f device is = not_failed_so f (inl device) is

pub not_failed : (f : ReplicaFault) → (f ≡ fault.Damaged) ⊎ (f ≡ fault.NoMemory) → fault_number f ≡ 11 → ⊥
not_failed f by eleven = elim by [
  | inl damaged ↦ let e : 9 ≡ 11 = sym (ap fault_number damaged) ∙ eleven in omega (arith, e)
  | inr memory ↦ let e : 8 ≡ 11 = sym (ap fault_number memory) ∙ eleven in omega (arith, e)
]

pub not_wrong : (f : ReplicaFault) → (f ≡ fault.Damaged) ⊎ (f ≡ fault.NoMemory) → fault_number f ≡ 10 → ⊥
not_wrong f by ten = elim by [
  | inl damaged ↦ let e : 9 ≡ 10 = sym (ap fault_number damaged) ∙ ten in omega (arith, e)
  | inr memory ↦ let e : 8 ≡ 10 = sym (ap fault_number memory) ∙ ten in omega (arith, e)
]
