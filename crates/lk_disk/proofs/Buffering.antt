-- What is known of a file with a buffer, call by call.
use Rattle.std.proofs.Common.{◌≡◌, ◌∙◌, ℕ, ◌+◌, ◌-◌, ◌≤◌, Bool, true, false, List, [], ◌++◌, length, take, inl, inr}
use Rattle.std.proofs.Common.{sym, ap, subst, arith, append-nil, length-append, length-take, take_all}
use Rattle.std.proofs.Math.Seq.{take-append-add}
use Rattle.std.proofs.lemmas.Bool.{cases_lt}
use Rattle.std.proofs.lemmas.List.{take-append-le, take-take}
use Rattle.lk_disk.specs.Disk.{Disk, MayLeave, AppendsSome, contents, appended, fully_synced, cut_to}
use Rattle.lk_disk.specs.Files.{File, whole, truncated, left_of, IsWhole}
use Rattle.lk_disk.specs.Buffers.{front, known, IsReady, HasNoMore, LeavesNoMore}
use Rattle.lk_disk.proofs.Devices.{cut_length}

-- ---- of disks and files

front_all : (k : ℕ) (d : Disk) → length (contents d) ≤ k → front k d ≡ d
front_all k d le =
    let both = length-append d.synced d.unsynced in
    (λ i. record {
      synced = take_all k d.synced (omega (arith, both, le)) i;
      unsynced = take_all (k - length d.synced) d.unsynced (omega (arith, both, le)) i;
    })

-- what counts of a disk that has grown is what it had
front_grown : (d : Disk) (piece : List ℕ) → front (length (contents d)) (appended d piece) ≡ d
front_grown d piece =
    let both = length-append d.synced d.unsynced in
    (λ i. record {
      synced = take_all (length (contents d)) d.synced (omega (arith, both)) i;
      unsynced = (take-append-le (length (contents d) - length d.synced) d.unsynced piece (omega (arith, both))
          ∙ take_all (length (contents d) - length d.synced) d.unsynced (omega (arith, both))) i;
    })

appends_none : (piece : List ℕ) (d : Disk) → AppendsSome piece d d
appends_none piece d = (0, (λ i. record { synced = d.synced; unsynced = sym (append-nil d.unsynced) i }))

whole_is : (f : File) (d : Disk) → f ≡ whole d → IsWhole f
whole_is f d e = e ∙ ap (λ x. whole (left_of x)) (sym e)

-- ---- between calls

-- where no call has failed, the file below has nothing of what waits
pub no_more : (is_short : Bool) (size : ℕ) (pending : List ℕ) (f : File) → IsReady is_short size pending f
    → HasNoMore is_short size pending f
no_more true size pending f ready = tt
no_more false size pending f ready =
    subst (λ d. AppendsSome pending d (left_of f)) (sym (front_all size (left_of f) (omega (arith, ready.1))))
    (appends_none pending (left_of f))

-- ---- a hand-over that has failed

front_failed : (size : ℕ) (piece : List ℕ) (f g : File) → size ≡ length (contents (left_of f))
    → AppendsSome piece (left_of f) (left_of g) → front size (left_of g) ≡ left_of f
front_failed size piece f g e some =
    ap (λ n. front n (left_of g)) e ∙ ap (front (length (contents (left_of f)))) some.1
    ∙ front_grown (left_of f) (take some.0 piece)

-- where something waits, the file below is not short
pub handed_no_more : (is_short : Bool) (size : ℕ) (pending : List ℕ) (f g : File) → IsReady is_short size pending f
    → (IsWhole f → AppendsSome pending (left_of f) (left_of g)) → HasNoMore is_short size pending g
handed_no_more true size pending f g ready err = tt
handed_no_more false size pending f g ready err =
    subst (λ d. AppendsSome pending d (left_of g))
    (sym (front_failed size pending f g ready.1 (err ready.0))) (err ready.0)

-- ---- a sync

flushed_length : (d : Disk) → length (contents (fully_synced d)) ≡ length (contents d)
flushed_length d = ap length (append-nil (contents d))

synced_ready : (is_short : Bool) (size : ℕ) (f g : File) → IsReady is_short size [] f
    → (IsWhole f → g ≡ whole (fully_synced (left_of f))) → ((n : ℕ) (d : Disk) → f ≡ truncated n d
    → g ≡ whole (cut_to n d))
    → IsReady false size [] g
synced_ready true size f g ready ok short =
    let e = short size ready.1 ready.2 in
    (whole_is g _ e, cut_length size ready.1 ready.3 ∙ ap (λ x. length (contents (left_of x))) (sym e))
synced_ready false size f g ready ok short =
    let e = ok ready.0 in
    (whole_is g _ e, ready.1 ∙ sym (flushed_length (left_of f)) ∙ ap (λ x. length (contents (left_of x))) (sym e))

-- where nothing waits, it leaves the file below whole
pub synced_as : (is_short : Bool) (size : ℕ) (pending : List ℕ) (f g : File) → pending ≡ []
    → IsReady is_short size pending f → (IsWhole f → g ≡ whole (fully_synced (left_of f)))
    → ((n : ℕ) (d : Disk) → f ≡ truncated n d → g ≡ whole (cut_to n d)) → IsReady false size pending g
synced_as is_short size pending f g none ready ok short =
    synced_ready is_short size f g (subst (λ l. IsReady is_short size l f) none ready) ok short

-- ---- a stop

grown_may_leave : (d : Disk) (piece left : List ℕ) (n : ℕ) → MayLeave (appended d (take n piece)) left
    → MayLeave (appended d piece) left
grown_may_leave d piece left n (k, e) = elim (cases_lt k (length d.unsynced + n)) [
  | inl less ↦ (
    k,
    e ∙ ap (λ l. d.synced ++ l)
        (ap (λ l. take k l) (sym (take-append-add d.unsynced piece n))
        ∙ take-take k (length d.unsynced + n) (d.unsynced ++ piece) (omega (arith, less))),
  )
  | inr more ↦ (
    length d.unsynced + n,
    e ∙ ap (λ l. d.synced ++ l)
        (take_all k (d.unsynced ++ take n piece)
        (omega (arith, more, length-append d.unsynced (take n piece), length-take n piece))
        ∙ sym (take-append-add d.unsynced piece n)),
  )
]

-- it leaves no more of the file below than of what is known
pub leaves_no_more : (is_short : Bool) (size : ℕ) (pending : List ℕ) (f : File) → HasNoMore is_short size pending f
    → LeavesNoMore (left_of f) (left_of (known is_short size pending f))
leaves_no_more true size pending f fits left may = may
leaves_no_more false size pending f fits left may =
    grown_may_leave (front size (left_of f)) pending left fits.0 (subst (λ d. MayLeave d left) fits.1 may)
