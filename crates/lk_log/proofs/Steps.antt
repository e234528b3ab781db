-- What the device's calls make of an open store.
use Rattle.std.proofs.Common.{◌≡◌, inl, inr, ℕ, zero, suc, min, ◌+◌, ◌<◌, Bool, false, List, [], ◌++◌, length, take}
use Rattle.std.proofs.Common.{refl, sym, ◌∙◌, ap, subst, arith, append_assoc, length-append}
use Rattle.std.specs.List.{AllByRecursion}
use Rattle.std.proofs.Math.Seq.{take-append-add}
use Rattle.std.proofs.lemmas.Bool.{cases_lt}
use Rattle.std.proofs.lemmas.List.{append-nil, take-take, take_all, take_min, take-append-le, length-take}
use Rattle.lk_types.specs.declared.entry.Entry.{Entry}
use Rattle.lk_disk.specs.Disk.{Disk, other, contents, appended, fully_synced, AppendsSome, MayLeave}
use Rattle.lk_disk.specs.declared.device.Side.{Side}
use Rattle.lk_disk.specs.declared.device.Side.TheVariants.{A, B}
use Rattle.lk_store_format.specs.Entries.{spelling_of_all, IsStored, plain}
use Rattle.lk_store_format.specs.Files.{IsFile}
use Rattle.lk_store_format.specs.Formats.{format, is_mixed}
use Rattle.lk_store_format.specs.Bases.{is_misplaced, generation}
use Rattle.lk_store_format.specs.declared.stored.Stored.{Stored}
use Rattle.lk_store_format.proofs.Spelling.{spelled-append, all-append, all-left, all-right}
use Rattle.lk_store_format.proofs.Mixed.{mixed-two}
use Rattle.lk_store_format.proofs.Whole.{front, file_behind, front_file}
use Rattle.lk_log.specs.Images.{Image, MayLeaveBoth, IsLive}
use Rattle.lk_log.specs.StoreValue.{pick}
use Rattle.lk_log.specs.Stores.{IsOlder, HoldsOn}
use Rattle.lk_log.proofs.ImageLaws.{misplaced-take, misplaced-plain, generation-append, generation-take, is_live}

pub take_nil : (n : ℕ) → let nil : List ℕ = [] in take n nil ≡ nil
take_nil zero = refl
take_nil (suc n) = refl

-- what may be left is a front of what is read
pub left_front : (d : Disk) (c : List ℕ) → MayLeave d c → (p : ℕ) × (c ≡ take p (contents d))
left_front d c left = (length d.synced + left.0, left.1 ∙ sym (take-append-add d.synced d.unsynced left.0))

-- an image of an older file
pub record OlderImage (c : List ℕ) (newest : ℕ) : Type 0 where
  pub entries : List Stored
  pub is_damaged : Bool
  pub file : IsFile c entries is_damaged
  pub base_first : is_misplaced entries ≡ false
  pub less : generation entries < newest

pub older_image : (d : Disk) (g : ℕ) → IsOlder d g → (c : List ℕ) → MayLeave d c → OlderImage c g
older_image d g older c left =
    let at = left_front d c left in
    let cut = front_file at.0 (contents d) older.entries older.file.whole in
    record {
      entries = take cut.count older.entries;
      is_damaged = cut.is_damaged;
      file = subst (λ (l : List ℕ). IsFile l (take cut.count older.entries) cut.is_damaged) (sym at.1) cut.file;
      base_first = misplaced-take cut.count older.entries older.base_first;
      less = omega (arith, generation-take cut.count older.entries, older.less);
    }

-- each image of the live file is the first entries and a front of what the others spell
pub record Grows (live_disk other_disk : Disk) (ks more : List Stored) : Type 0 where
  pub front : (c : List ℕ) → MayLeave live_disk c → (m : ℕ) × (c ≡ spelling_of_all ks ++ take m (spelling_of_all more))
  pub fit : AllByRecursion IsStored (ks ++ more)
  pub base_first : is_misplaced (ks ++ more) ≡ false
  pub sound : is_mixed (ks ++ more) ≡ false
  pub older : IsOlder other_disk (generation ks)

pub stands : (disks : Side → Disk) (live : Side) (ks more : List Stored)
    → Grows (disks live) (disks (other live)) ks more → (image : Image) → MayLeaveBoth disks image
    → (k : ℕ) × IsLive image (ks ++ take k more)
stands disks live ks more h image left =
    let at = h.front (image live) (left live) in
    let fits = all-right IsStored ks more h.fit in
    let n = (front at.0 more fits).count in
    let older = older_image (disks (other live)) (generation ks) h.older (image (other live)) (left (other live)) in
    let some : 0 < generation ks = omega (arith, older.less) in (
      n,
      is_live image live (ks ++ take n more) older.entries older.is_damaged
          (subst (λ (c : List ℕ). IsFile c (ks ++ take n more) false) (sym at.1)
          (file_behind ks more at.0 fits (all-left IsStored ks more h.fit) h.sound))
          older.file
          (subst (λ (l : List Stored). is_misplaced l ≡ false) (take-append-add ks more n)
          (misplaced-take (length ks + n) (ks ++ more) h.base_first))
          older.base_first
          (omega (arith, older.less, generation-append ks (take n more) some)),
    )

pub stands_at : (live : Side) (d o : Disk) (ks more : List Stored) → Grows d o ks more → (image : Image)
    → MayLeaveBoth (pick live d o) image → (k : ℕ) × IsLive image (ks ++ take k more)
stands_at A d o ks more h = stands (pick A d o) A ks more h
stands_at B d o ks more h = stands (pick B d o) B ks more h

-- nothing was added: a beginning of what stood is a beginning of more
pub keeps_at : (live : Side) (d o : Disk) (ks ls more : List Stored) → HoldsOn d o ks ls → (image : Image)
    → MayLeaveBoth (pick live d o) image → (k : ℕ) × IsLive image (ks ++ take k (ls ++ more))
keeps_at live d o ks ls more h image left =
    let at = stands_at live d o ks ls
    (record {
      front = λ c left. (left.0, left.1 ∙ (λ i. h.synced i ++ take left.0 (h.unsynced i)));
      fit = h.fit;
      base_first = h.base_first;
      sound = h.sound;
      older = h.older;
    }) image left in
    let same : take (min at.0 (length ls)) (ls ++ more) ≡ take at.0 ls =
    take-append-le (min at.0 (length ls)) ls more (omega arith) ∙ take_min at.0 ls in
    (min at.0 (length ls), subst (λ (l : List Stored). IsLive image (ks ++ l)) (sym same) at.1)

pub take_within : (m n : ℕ) (x y : List ℕ) → (p : ℕ) × (take m (x ++ take n y) ≡ take p (x ++ y))
take_within m n x y = elim (cases_lt m (length x + n)) [
  | inl less ↦ (
    m,
    ap (λ (l : List ℕ). take m l) (sym (take-append-add x y n))
        ∙ take-take m (length x + n) (x ++ y) (omega arith),
  )
  | inr long ↦ (
    length x + n,
    take_all m (x ++ take n y) (omega (arith, length-append x (take n y), length-take n y))
        ∙ sym (take-append-add x y n),
  )
]

-- what is given fits after what stands there
module _ (ks ls : List Stored) (given : List Entry) where
  regrouped : (ks ++ ls) ++ plain given ≡ ks ++ (ls ++ plain given)
  regrouped = append_assoc ks ls (plain given)

  more_fit : AllByRecursion IsStored (ks ++ ls) → AllByRecursion IsStored (plain given)
      → AllByRecursion IsStored (ks ++ (ls ++ plain given))
  more_fit fit fits = subst (AllByRecursion IsStored) regrouped (all-append IsStored (ks ++ ls) (plain given) fit fits)

  more_placed : 0 < generation ks → is_misplaced (ks ++ ls) ≡ false → is_misplaced (ks ++ (ls ++ plain given)) ≡ false
  more_placed some base_first =
      subst (λ (l : List Stored). is_misplaced l ≡ false) regrouped
      (misplaced-plain (ks ++ ls) given (omega (arith, some, generation-append ks ls some)) base_first)

older_same : (o o' : Disk) (g : ℕ) → o' ≡ o → IsOlder o g → IsOlder o' g
older_same o o' g same older = subst (λ (e : Disk). IsOlder e g) (sym same) older

older_positive : (o : Disk) (g : ℕ) → IsOlder o g → 0 < g
older_positive o g older = omega (arith, older.less)

module _ (d o d' o' : Disk) (ks ls : List Stored) (given : List Entry) where
  pub grows_torn : format ks ≡ 2 → HoldsOn d o ks ls → AllByRecursion IsStored (plain given) → (n : ℕ)
      → d' ≡ appended d (take n (spelling_of_all (plain given))) → o' ≡ o → Grows d' o' ks (ls ++ plain given)
  grows_torn two h fits n is same = record {
    front = λ c left.
        let within = take_within left.0 n (spelling_of_all ls) (spelling_of_all (plain given)) in
        let new : c ≡ d.synced ++ take left.0 (d.unsynced ++ take n (spelling_of_all (plain given))) = left.1
        ∙ ap (λ (e : Disk). e.synced ++ take left.0 e.unsynced) is in
        let old : c ≡ spelling_of_all ks
        ++ take left.0 (spelling_of_all ls ++ take n (spelling_of_all (plain given))) =
        new ∙ (λ i. h.synced i ++ take left.0 (h.unsynced i ++ take n (spelling_of_all (plain given)))) in (
          within.0,
          old ∙ ap (λ (l : List ℕ). spelling_of_all ks ++ l)
              (within.1 ∙ ap (λ (l : List ℕ). take within.0 l) (sym (spelled-append ls (plain given)))),
        );
    fit = more_fit ks ls given h.fit fits;
    base_first = more_placed ks ls given (older_positive o (generation ks) h.older) h.base_first;
    sound = mixed-two ks (ls ++ plain given) two;
    older = older_same o o' (generation ks) same h.older;
  }

  pub holds_append : format ks ≡ 2 → HoldsOn d o ks ls → AllByRecursion IsStored (plain given)
      → d' ≡ appended d (spelling_of_all (plain given)) → o' ≡ o → HoldsOn d' o' ks (ls ++ plain given)
  holds_append two h fits is same = record {
    synced = ap (λ (e : Disk). e.synced) is ∙ h.synced;
    unsynced = ap (λ (e : Disk). e.unsynced) is ∙ ap (λ (l : List ℕ). l ++ spelling_of_all (plain given)) h.unsynced
        ∙ sym (spelled-append ls (plain given));
    fit = more_fit ks ls given h.fit fits;
    base_first = more_placed ks ls given (older_positive o (generation ks) h.older) h.base_first;
    sound = mixed-two ks (ls ++ plain given) two;
    older = older_same o o' (generation ks) same h.older;
  }

pub holds_sync : (d o d' o' : Disk) (ks ls : List Stored) → HoldsOn d o ks ls → d' ≡ fully_synced d → o' ≡ o
    → HoldsOn d' o' (ks ++ ls) []
holds_sync d o d' o' ks ls h is same =
    let all = append-nil (ks ++ ls) in
    record {
      synced = ap (λ (e : Disk). e.synced) is ∙ (λ i. h.synced i ++ h.unsynced i) ∙ sym (spelled-append ks ls);
      unsynced = ap (λ (e : Disk). e.unsynced) is;
      fit = subst (AllByRecursion IsStored) (sym all) h.fit;
      base_first = subst (λ (l : List Stored). is_misplaced l ≡ false) (sym all) h.base_first;
      sound = subst (λ (l : List Stored). is_mixed l ≡ false) (sym all) h.sound;
      older = older_same o o' (generation (ks ++ ls)) same
          (subst (IsOlder o) (sym (generation-append ks ls (older_positive o (generation ks) h.older))) h.older);
    }

pub grows_holds : (d o : Disk) (ks ls : List Stored) → HoldsOn d o ks ls → Grows d o ks ls
grows_holds d o ks ls h =
    record {
      front = λ c left. (left.0, left.1 ∙ (λ i. h.synced i ++ take left.0 (h.unsynced i)));
      fit = h.fit;
      base_first = h.base_first;
      sound = h.sound;
      older = h.older;
    }

-- all of it is synced
pub grows_synced : (d o d' o' : Disk) (ks ls : List Stored) → HoldsOn d o ks ls → d' ≡ fully_synced d
    → o' ≡ o → Grows d' o' ks ls
grows_synced d o d' o' ks ls h is same = record {
  front = λ c left.
      let none : take left.0 d'.unsynced ≡ [] = ap (λ (e : Disk). take left.0 e.unsynced) is ∙ take_nil left.0 in
      let all : c ≡ d.synced ++ d.unsynced = left.1 ∙ (λ i. (is i).synced ++ none i)
      ∙ append-nil (d.synced ++ d.unsynced) in (
        length (spelling_of_all ls),
        all ∙ (λ i. h.synced i ++ h.unsynced i)
            ∙ ap (λ (l : List ℕ). spelling_of_all ks ++ l)
            (sym (take_all (length (spelling_of_all ls)) (spelling_of_all ls) (omega arith))),
      );
  fit = h.fit;
  base_first = h.base_first;
  sound = h.sound;
  older = older_same o o' (generation ks) same h.older;
}

-- the same, where the piece that was given is these bytes
module _ (d o d' o' : Disk) (ks ls : List Stored) (given : List Entry) (bytes : List ℕ)
    (piece : bytes ≡ spelling_of_all (plain given)) where
  pub torn_piece : format ks ≡ 2 → HoldsOn d o ks ls → AllByRecursion IsStored (plain given) → AppendsSome bytes d d'
      → o' ≡ o → Grows d' o' ks (ls ++ plain given)
  torn_piece two h fits torn same =
      grows_torn d o d' o' ks ls given two h fits torn.0
      (torn.1 ∙ ap (λ (l : List ℕ). appended d (take torn.0 l)) piece) same

  pub holds_piece : format ks ≡ 2 → HoldsOn d o ks ls → AllByRecursion IsStored (plain given) → d' ≡ appended d bytes
      → o' ≡ o → HoldsOn d' o' ks (ls ++ plain given)
  holds_piece two h fits is same = holds_append d o d' o' ks ls given two h fits (is ∙ ap (appended d) piece) same

-- nothing has changed
pub holds_same : (d o d' o' : Disk) (ks ls : List Stored) → HoldsOn d o ks ls → d' ≡ d → o' ≡ o → HoldsOn d' o' ks ls
holds_same d o d' o' ks ls h same_d same_o =
    subst (λ (e : Disk). HoldsOn e o' ks ls) (sym same_d) (subst (λ (e : Disk). HoldsOn d e ks ls) (sym same_o) h)
