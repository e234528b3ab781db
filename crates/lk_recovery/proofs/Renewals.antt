-- What a revival makes of a store that it may have to bring to format 2.
use Rattle.std.proofs.Common.{◌≡◌, ℕ, zero, suc, ◌+◌, ◌<◌, ◌≤◌, inl, inr, false, eqb, Result, Ok, Err, IsErrAnd, IfErr}
use Rattle.std.proofs.Common.{OnErr, List, [], ◌∷◌, ◌++◌, take, refl, ap, sym, ◌∙◌, subst, arith, append-nil}
use Rattle.std.specs.List.{AllByRecursion}
use Rattle.std.proofs.lemmas.Bool.{cases_lt, ne_eqb}
use Rattle.lk_types.specs.Limits.{max_count}
use Rattle.lk_disk.specs.Disk.{Disk, other}
use Rattle.lk_disk.specs.Meters.{CallsSucceed}
use Rattle.lk_disk.specs.declared.device.Side.{Side}
use Rattle.lk_disk.specs.declared.meter.Meter.{Meter}
use Rattle.lk_disk.proofs.Devices.{passes_on}
use Rattle.lk_store_format.specs.Entries.{IsStored}
use Rattle.lk_store_format.specs.Formats.{format}
use Rattle.lk_store_format.specs.Bases.{generation}
use Rattle.lk_store_format.specs.Standings.{HasHeader}
use Rattle.lk_store_format.specs.Values.{HeaderValue, StandingValue}
use Rattle.lk_store_format.specs.declared.stored.Stored.{Stored}
use Rattle.lk_store_format.specs.declared.stored.Stored.TheVariants.{Base, Plain}
use Rattle.lk_log.specs.Images.{Image, IsLive, seen}
use Rattle.lk_log.specs.StoreValue.{StoreValue, disks}
use Rattle.lk_log.specs.Stores.{KeepsOrIs, next_base, Opens}
use Rattle.lk_log.proofs.StoreLaws.{opens_holds, live_unique, not_both}
use Rattle.lk_state.specs.Meanings.{Meaning}
use Rattle.lk_node_interface.specs.declared.note.Note.{Note}
use Rattle.lk_node.specs.Calls.{LeavesFit, NodeFits}
use Rattle.lk_node.specs.Histories.{History, Genesis, IsLawful}
use Rattle.lk_node.specs.Holdings.{Holding}
use Rattle.lk_node.specs.Keeping.{StoreKeeps}
use Rattle.lk_node.specs.Leavings.{header_of, DisksFit}
use Rattle.lk_node.specs.NodeValue.{NodeValue}
use Rattle.lk_node.specs.BorneOut.{text}
use Rattle.lk_node_interface.specs.Faults.{IsStoreFault}
use Rattle.lk_recovery.specs.Compacting.{renew_calls}
use Rattle.lk_node_interface.specs.declared.fault.ReplicaFault.{ReplicaFault}
use Rattle.lk_recovery.specs.Revivals.{RestartsAs, IsOld, IsLastOld, RenewsBy, CallsOfOpening, CallsOfRevival}
use Rattle.lk_recovery.specs.Revivals.{NarrowsOrRenews}
use Rattle.lk_recovery.proofs.Revivals.{nothing_later, picked}

-- ---- what goes on

-- a node that went on with nothing sent fits
pub goes_fit : (m : Meaning) (h : History) (n : ℕ) (Shows : Holding → Type 0) (d : Side → Disk) (notes : List Note)
    → IsLawful m h → LeavesFit m h n Shows d notes [] → NodeFits m h n Shows d
goes_fit m h n Shows d notes lawful g = record {
  lawful = lawful;
  holding = g.holding;
  shown = g.shown;
  fits = g.fits;
  left = subst (λ l. DisksFit m (record { genesis = h.genesis; sent = l; asked = h.asked }) n d)
      (append-nil h.sent) (g.left 0);
}

-- and goes on where it fits again
pub then_goes : (m : Meaning) (h : History) (n : ℕ) (Shows Now : Holding → Type 0) (d new : Side → Disk)
    (notes : List Note) → LeavesFit m h n Shows d notes [] → NodeFits m h n Now new → LeavesFit m h n Now new notes []
then_goes m h n Shows Now d new notes g f = record {
  holding = f.holding;
  shown = f.shown;
  fits = f.fits;
  may = λ x c. absurd (omega (arith, c.1));
  noted = g.noted;
  left = nothing_later m h n new f.left;
}

-- ---- what was taken up

pub taken_keeps : (m : Meaning) (IsText : List ℕ → Type 0) (d : Side → Disk) (genesis : Genesis) (n : ℕ)
    (whose : HeaderValue) (node : NodeValue) (store : StoreValue) (notes : List Note)
    → whose ≡ header_of genesis n → store.header ≡ whose → RestartsAs m IsText d whose node store notes
    → StoreKeeps (header_of genesis n) store node.acceptor.state
taken_keeps m IsText d genesis n whose node store notes is named t =
    subst (λ (w : HeaderValue). StoreKeeps w store node.acceptor.state) is (record {
      entries = t.opens.entries;
      loose = [];
      holds = opens_holds (seen d) whose (text m t.genesis []) store t.standing t.opens named;
      decided = tt;
      header = t.opens.header;
      standing = t.standing;
      stands = t.opens.stands;
      remembers = sym (ap (λ (k : NodeValue). k.acceptor.state) t.restores.node_is);
    })

-- ---- the format of what was found

format_one : (es : List Stored) (h : HeaderValue) → AllByRecursion IsStored es → HasHeader es h
    → (format es ≡ 2 → ⊥) → format es ≡ 1
format_one [] h fit at other = absurd at
format_one (Base b ∷ es) h fit at other =
    elim (cases_lt b.format 2)
    [ inl less ↦ omega (arith, less, fit.0.0.3.0) | inr more ↦ absurd (other (omega (arith, more, fit.0.0.3.1))) ]
format_one (Plain x ∷ es) h fit at other = absurd at

module _ (before : Image) (whose : HeaderValue) (zero' : List ℕ) (store : StoreValue) (s : StandingValue)
    (o : Opens before whose zero' store s) where
  -- a store that is opened has the format of a live file where it is not 2
  pub old_live : (store.format ≡ 2 → ⊥) → IsLive before o.entries × (format o.entries ≡ 1)
  old_live other = elim o.found [
    | inl live ↦ (
      live,
      format_one o.entries whose
          (subst (AllByRecursion IsStored) (append-nil o.entries) o.holds.fit) o.header
          (λ two. other (o.format_is ∙ two)),
    )
    | inr begun ↦ absurd (other (o.format_is ∙ ap format begun.1))
  ]

  none_old : store.format ≡ 2 → IsOld before → ⊥
  none_old two old = elim o.found [
    | inl live ↦
        let same : old.0 ≡ o.entries = live_unique before old.0 o.entries old.1 live in
        let one : store.format ≡ 1 = o.format_is ∙ ap format (sym same) ∙ old.2 in
        omega (arith, one, two)
    | inr begun ↦ not_both before old.0 old.1 begun.0
  ]

  -- so many calls bring it to format 2
  pub renews_by : RenewsBy before (renew_calls store.format)
  renews_by = elim (cases_lt store.format 2) [
    | inl less ↦
        let other : eqb store.format 2 ≡ false = ne_eqb store.format 2 (λ two. omega (arith, two, less)) in
        let is = old_live (λ two. omega (arith, two, less)) in
        rw other (record { old = λ old. refl; rests = λ none. absurd (none (o.entries, is.0, is.1)) })
    | inr more ↦ by_two more
  ]
    where
      by_two : 2 ≤ store.format → RenewsBy before (renew_calls store.format)
      by_two more = elim (cases_lt 2 store.format) [
        | inl above ↦
            absurd (let is = old_live (λ two. omega (arith, two, above)) in omega (arith, o.format_is, is.1, above))
        | inr below ↦
            let two : store.format ≡ 2 = omega (arith, more, below) in
            subst (λ (f : ℕ). RenewsBy before (renew_calls f)) (sym two)
            (record { old = λ old. absurd (none_old two old); rests = λ none. refl })
      ]

  -- where the live file is such a one, the store that is opened has format 1 and the last generation
  pub of_last_old : IsLastOld before → (store.format ≡ 1) × (max_count ≤ store.generation)
  of_last_old last = elim o.found [
    | inl live ↦
        let same : last.0 ≡ o.entries = live_unique before last.0 o.entries last.1 live in
        (o.format_is ∙ ap format (sym same) ∙ last.2, omega (arith, last.3, ap generation same, o.generation_is))
    | inr begun ↦ absurd (not_both before last.0 last.1 begun.0)
  ]

  -- no generation is left for it
  pub last_old : (store.format ≡ 2 → ⊥) → max_count ≤ store.generation → IsLastOld before
  last_old other most = let is = old_live other in (o.entries, is.0, is.1, omega (arith, o.generation_is, most))

-- ---- which calls were made

pub revival_calls : (d : Side → Disk) (l m n : Meter) (whose : HeaderValue) (zero' : List ℕ) (store : StoreValue)
    (s : StandingValue) → Opens (seen d) whose zero' store s
    → CallsOfOpening d l m → CallsSucceed m n (renew_calls store.format) → CallsOfRevival d l n
revival_calls d l m n whose zero' store s o c more = (
  c.0,
  renew_calls store.format,
  c.1,
  renews_by (seen d) whose zero' store s o,
  passes_on c.0 c.2 (renew_calls store.format) more,
)

-- ---- which refusal it is

pub not_of_store : (number told : ℕ) → IsStoreFault number → 8 < told → told < 11 → number ≡ told → ⊥
not_of_store number told by more less is = elim by [
  | inl device ↦ omega (arith, device, more, is)
  | inr (inl memory) ↦ omega (arith, memory, more, is)
  | inr (inr failed) ↦ omega (arith, failed, less, is)
]

-- it was refused so
pub if_errs_as : {T : Type 0} (P : ReplicaFault → Type 0) (r : Result T ReplicaFault) (f : ReplicaFault)
    → IsErrAnd r (λ e. e ≡ f) → P f → IfErr r P
if_errs_as P (Ok x) f is p = tt
if_errs_as P (Err e) f is p = subst P (sym is) p

-- ---- what a refusal leaves

pub on_err : {T E : Type 0} (r : Result T E) (P : Type 0) → P → OnErr r P
on_err (Ok x) P p = tt
on_err (Err e) P p = p

take_nothing : (k : ℕ) → let nil : List Stored = [] in take k nil ≡ nil
take_nothing zero = refl
take_nothing (suc k) = refl

pub renew_left : (old new : Side → Disk) (whose : HeaderValue) (zero' blank : List ℕ) (store : StoreValue)
    (s t : StandingValue) (o : Opens (seen old) whose zero' store s) → (store.format ≡ 2 → ⊥)
    → KeepsOrIs new o.entries [] (next_base store t) → NarrowsOrRenews old new whose blank
renew_left old new whose zero' blank store s t o other keeps image left =
    let is = old_live (seen old) whose zero' store s o other in
    inr (inr (
      o.entries,
      is.0,
      is.1,
      elim (keeps image left) [
        | inl kept ↦ inl (subst (IsLive image)
            (ap (λ (l : List Stored). o.entries ++ l) (take_nothing kept.0) ∙ append-nil o.entries) kept.1)
        | inr goes ↦ inr (next_base store t, refl, ap (λ (g : ℕ). g + 1) o.generation_is, goes)
      ],
    ))

-- the device that a store gives back has its disks
pub given_renew : (old : Side → Disk) (whose : HeaderValue) (blank : List ℕ) (s : StoreValue) (d : Side → Disk)
    → d s.live ≡ s.live_disk → d (other s.live) ≡ s.other_disk → NarrowsOrRenews old (disks s) whose blank
    → NarrowsOrRenews old d whose blank
given_renew old whose blank s d here there =
    subst (λ (e : Side → Disk). NarrowsOrRenews old e whose blank)
    (λ i side. sym (picked s.live d s.live_disk s.other_disk here there side) i)
