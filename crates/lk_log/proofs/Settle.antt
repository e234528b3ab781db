-- What the calls of an opening leave.
use Rattle.std.proofs.Common.{◌≡◌, inl, inr, ℕ, ◌+◌, ◌-◌, ◌≤◌, Bool, false, List, [], ◌++◌, length, take, sym, ◌∙◌, ap}
use Rattle.std.proofs.Common.{subst, arith, length-append}
use Rattle.std.specs.List.{AllByRecursion}
use Rattle.std.proofs.Math.Seq.{take-append-add}
use Rattle.std.proofs.lemmas.Bool.{cases_lt}
use Rattle.std.proofs.lemmas.List.{append-nil, take-take, take_all, take_at, length-take, nil_from_length}
use Rattle.lk_disk.specs.Disk.{Disk, contents, cut_to, fully_synced, CutShort, MayLeave}
use Rattle.lk_disk.specs.declared.device.Side.{Side}
use Rattle.lk_store_format.specs.Entries.{spelling_of_all, IsStored}
use Rattle.lk_store_format.specs.Files.{AreWholeEntries, IsFile}
use Rattle.lk_store_format.specs.Formats.{is_mixed}
use Rattle.lk_store_format.specs.Bases.{is_misplaced, generation}
use Rattle.lk_store_format.specs.declared.stored.Stored.{Stored}
use Rattle.lk_store_format.proofs.Whole.{file_unique, file_spelled, file_sound, front_past}
use Rattle.lk_log.specs.Images.{Narrows}
use Rattle.lk_log.specs.Stores.{IsOlder, HoldsOn, FileNarrows}
use Rattle.lk_log.proofs.Steps.{take_nil, left_front}

-- what both bytes have as one file, they have as any
pub both_same : (b c : List ℕ) (es : List Stored) (d : Bool) → IsFile b es d → IsFile c es d
    → (fs : List Stored) (f : Bool) → IsFile b fs f → IsFile c fs f
both_same b c es d at_b at_c fs f given =
    let same = file_unique b es fs d f at_b given in
    subst (λ (k : Bool). IsFile c fs k) same.1 (subst (λ (l : List Stored). IsFile c l d) same.0 at_c)

pub file_same : (old new : Disk) → new ≡ old → FileNarrows old new
file_same old new same c left = (c, subst (λ (d : Disk). MayLeave d c) same left, λ es d f. f)

pub file_then : (old mid new : Disk) → FileNarrows old mid → FileNarrows mid new → FileNarrows old new
file_then old mid new first then c left =
    let b = then c left in
    let a = first b.0 b.1 in
    (a.0, a.1, λ es d f. b.2 es d (a.2 es d f))

pub narrows : (old new : Side → Disk) → ((s : Side) → FileNarrows (old s) (new s)) → Narrows old new
narrows old new each image left = (
  λ s. (each s (image s) (left s)).0,
  λ s. (each s (image s) (left s)).1,
  λ v es m. record {
    is_damaged = m.is_damaged;
    file = λ s. (each s (image s) (left s)).2 (es s) (m.is_damaged s) (m.file s);
    is = m.is;
  },
)

pub whole_left : (d : Disk) → MayLeave d (contents d)
whole_left d = (
  length d.unsynced,
  ap (λ (l : List ℕ). d.synced ++ l) (sym (take_all (length d.unsynced) d.unsynced (omega arith))),
)

-- a file whose only image is the whole of another
pub one_image : (old new : Disk) (es : List Stored) → IsFile (contents old) es false
    → ((c : List ℕ) → MayLeave new c → IsFile c es false) → FileNarrows old new
one_image old new es f each c left = (contents old, whole_left old, both_same (contents old) c es false f (each c left))

pub all_synced : (d : Disk) (bytes c : List ℕ) → d ≡ record { synced = bytes; unsynced = [] } → MayLeave d c → c ≡ bytes
all_synced d bytes c is left =
    left.1 ∙ (λ i. (is i).synced ++ take left.0 (is i).unsynced)
    ∙ ap (λ (l : List ℕ). bytes ++ l) (take_nil left.0) ∙ append-nil bytes

-- cut after its whole entries a file is these
pub cut_whole : (d : Disk) (n : ℕ) (es : List Stored) → AreWholeEntries (contents d) es
    → n ≡ length (spelling_of_all es) → take n (contents d) ≡ spelling_of_all es
cut_whole d n es w end = ap (λ (l : List ℕ). take n l) w.is ∙ take_at (spelling_of_all es) w.rest n (sym end)

pub cut_narrows : (old new : Disk) (n : ℕ) (es : List Stored) → IsFile (contents old) es false
    → n ≡ length (spelling_of_all es) → new ≡ cut_to n old → FileNarrows old new
cut_narrows old new n es f end is =
    one_image old new es f (λ c left. file_spelled es c f.whole.fit (file_sound (contents old) es f)
    (all_synced new (take n (contents old)) c is left ∙ cut_whole old n es f.whole end))

pub flushed_narrows : (old new : Disk) → new ≡ fully_synced old → FileNarrows old new
flushed_narrows old new is c left = (
  contents old,
  whole_left old,
  λ es d f. subst (λ (l : List ℕ). IsFile l es d) (sym (all_synced new (contents old) c is left)) f,
)

-- a cut that failed left a front of the file
pub short_front : (old new : Disk) (n : ℕ) → CutShort n old new → (c : List ℕ) → MayLeave new c
    → c ≡ take (length c) (contents old)
short_front old new n short c left =
    let at = left_front new c left in
    let size : length c ≤ length (contents new) = omega (arith, ap length at.1, length-take at.0 (contents new)) in
    let in_new : c ≡ take (length c) (contents new) = sym (front_again at.0 (contents new) c at.1) in
    in_new ∙ ap (λ (l : List ℕ). take (length c) l) short.front
    ∙ take-take (length c) (length (contents new)) (contents old) size
  where
    front_again : (p : ℕ) (xs c : List ℕ) → c ≡ take p xs → take (length c) xs ≡ c
    front_again p xs c is = elim (cases_lt p (length xs)) [
      | inl less ↦ let size : length c ≡ p = omega (arith, ap length is, length-take p xs) in
          ap (λ (k : ℕ). take k xs) size ∙ sym is
      | inr all ↦ let whole : take p xs ≡ xs = take_all p xs all in let same : c ≡ xs = is ∙ whole in
          take_all (length c) xs (omega (arith, ap length same)) ∙ sym same
    ]

pub short_narrows : (old new : Disk) (n : ℕ) (es : List Stored) → IsFile (contents old) es false
    → n ≡ length (spelling_of_all es) → CutShort n old new → FileNarrows old new
short_narrows old new n es f end short c left = elim (cases_lt (length c) (length old.synced)) [
  | inl cut ↦
      let long : length (spelling_of_all es) ≤ length c =
      omega (arith, short.kept, ap length left.1, length-append new.synced (take left.0 new.unsynced)) in
      let here : c ≡ take (length c) (contents old) = short_front old new n short c left in (
        contents old,
        whole_left old,
        both_same (contents old) c es false f
            (subst (λ (l : List ℕ). IsFile l es false) (sym here) (front_past (length c) (contents old) es f long)),
      )
  | inr kept ↦
      let at : length c ≡ length old.synced + (length c - length old.synced) = omega arith in
      let here : c ≡ old.synced ++ take (length c - length old.synced) old.unsynced =
      short_front old new n short c left ∙ ap (λ (k : ℕ). take k (old.synced ++ old.unsynced)) at
      ∙ take-append-add old.synced old.unsynced (length c - length old.synced) in
      (c, (length c - length old.synced, here), λ fs d of. of)
]

-- nothing stands after the whole entries
pub nothing_behind : (d : Disk) (es : List Stored) → AreWholeEntries (contents d) es
    → length (contents d) ≤ length (spelling_of_all es) → contents d ≡ spelling_of_all es
nothing_behind d es w short =
    let nothing : w.rest ≡ [] =
    nil_from_length w.rest (omega (arith, ap length w.is, length-append (spelling_of_all es) w.rest)) in
    w.is ∙ ap (λ (l : List ℕ). spelling_of_all es ++ l) nothing ∙ append-nil (spelling_of_all es)

-- cut and synced, beside an older file
pub settled : (mid new o o' : Disk) (es : List Stored) → AllByRecursion IsStored es → is_misplaced es ≡ false
    → is_mixed es ≡ false → contents mid ≡ spelling_of_all es → new ≡ fully_synced mid → o' ≡ o
    → IsOlder o (generation es) → HoldsOn new o' es []
settled mid new o o' es fit base_first sound is sync same older =
    let all = sym (append-nil es) in
    record {
      synced = ap (λ (d : Disk). d.synced) sync ∙ is;
      unsynced = ap (λ (d : Disk). d.unsynced) sync;
      fit = subst (AllByRecursion IsStored) all fit;
      base_first = subst (λ (l : List Stored). is_misplaced l ≡ false) all base_first;
      sound = subst (λ (l : List Stored). is_mixed l ≡ false) all sound;
      older = subst (λ (d : Disk). IsOlder d (generation es)) (sym same) older;
    }

pub cut_contents : (old new : Disk) (n : ℕ) (es : List Stored) → AreWholeEntries (contents old) es
    → n ≡ length (spelling_of_all es) → new ≡ cut_to n old → contents new ≡ spelling_of_all es
cut_contents old new n es w end is = ap contents is ∙ append-nil (take n (contents old)) ∙ cut_whole old n es w end
