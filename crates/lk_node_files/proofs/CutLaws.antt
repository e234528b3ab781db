-- What a cut of an outdated file leaves, and what a program without sums finds then.
use Rattle.std.proofs.Common.{◌≡◌, ◌∙◌, ℕ, zero, suc, ◌+◌, ◌/◌, ◌%◌, ◌^◌, ◌<◌, ◌≤◌, Bool, true, false, ltb, leb, not}
use Rattle.std.proofs.Common.{◌&&◌, ◌||◌, List, [], ◌∷◌, ◌++◌, length, take, drop, refl, sym, ap, subst, arith}
use Rattle.std.proofs.Math.Seq.{take-append-add}
use Rattle.std.proofs.lemmas.Bool.Decides.{nat_tests}
use Rattle.std.proofs.lemmas.List.{append-nil, length-append}
use Rattle.lk_disk.specs.Disk.{Disk, contents, fully_synced, other, CutShort, MayLeave}
use Rattle.lk_disk.specs.declared.device.Side.{Side}
use Rattle.lk_disk.specs.declared.device.Side.TheVariants.{A, B}
use Rattle.lk_codec.specs.Fields.{four}
use Rattle.lk_store_format.specs.Entries.{body, spelling, IsStored}
use Rattle.lk_store_format.specs.Files.{IsFile, is_torn, stated_length}
use Rattle.lk_store_format.specs.declared.stored.Stored.{Stored}
use Rattle.lk_store_format.specs.declared.stored.Stored.TheVariants.{Base}
use Rattle.lk_store_format.proofs.EntryLaws.{body_short}
use Rattle.lk_store_format.proofs.Whole.{file_spelled}
use Rattle.lk_log.specs.Images.{Image, IsDamaged, IsLive, MayLeaveBoth, seen}
use Rattle.lk_log.specs.StoreValue.{pick}
use Rattle.lk_summed_disk.specs.Frames.{HasSums, magic}
use Rattle.lk_summed_disk.specs.Readers.{fresh, plain, text}
use Rattle.lk_node_files.specs.Older.{BeginsWith, IsBelow, IsSummed, legible}
use Rattle.lk_node_files.specs.Outdated.{IsCut, IsOutdated, decoded_image}
use Rattle.lk_node_files.proofs.LiveLaws.{each_side, stays_live}

-- ---- bytes that begin with an entry

zero_byte : (n : ℕ) → n ≤ 65532 → n / 256 ^ 3 % 256 ≡ 0
zero_byte n short = omega (arith, short)

-- the first byte of a length is zero
zero_first : (e : Stored) (rest : List ℕ) → IsStored e → spelling e ++ rest ≡ 0 ∷ drop 1 (spelling e ++ rest)
unfolding spelling four
zero_first e rest fits =
    ap (λ (b : ℕ). b ∷ drop 1 (spelling e ++ rest)) (zero_byte (length (body e)) (body_short e fits))

pub begins_zero : (g : ℕ) (bytes : List ℕ) → BeginsWith g bytes → (more : List ℕ) × (bytes ≡ 0 ∷ more)
begins_zero g bytes begins = (
  drop 1 (spelling (Base begins.base) ++ begins.rest),
  begins.is ∙ zero_first (Base begins.base) begins.rest begins.fits,
)

-- so they have no sums
pub no_sums : (s : Side) (bytes more : List ℕ) → bytes ≡ 0 ∷ more → HasSums s bytes → ⊥
no_sums A bytes more is sums = let same : 0 ∷ more ≡ magic A ++ sums.0 = sym is ∙ sums.1 in absurd cc
no_sums B bytes more is sums = let same : 0 ∷ more ≡ magic B ++ sums.0 = sym is ∙ sums.1 in absurd cc

plain_text : (bytes : List ℕ) → text plain bytes ≡ bytes
plain_text [] = refl
plain_text (b ∷ bytes) = ap (λ (l : List ℕ). b ∷ l) (plain_text bytes)

-- and they are read as they are, and each front of them
all_text : (s : Side) (bytes more : List ℕ) → bytes ≡ 0 ∷ more → text (fresh s) bytes ≡ bytes
all_text s bytes more is =
    subst (λ (l : List ℕ). text (fresh s) l ≡ l) (sym is) (ap (λ (l : List ℕ). 0 ∷ l) (plain_text more))

front_text : (s : Side) (n : ℕ) (bytes more : List ℕ) → bytes ≡ 0 ∷ more
    → text (fresh s) (take n bytes) ≡ take n bytes
front_text s zero bytes more is = refl
front_text s (suc n) bytes more is =
    subst (λ (l : List ℕ). text (fresh s) (take (suc n) l) ≡ take (suc n) l) (sym is)
    (ap (λ (l : List ℕ). 0 ∷ l) (plain_text (take n more)))

-- ---- what a stop leaves

front_of_front : (n k : ℕ) (bytes : List ℕ) → (m : ℕ) × (take n (take k bytes) ≡ take m bytes)
front_of_front zero k bytes = (0, refl)
front_of_front (suc n) zero bytes = (0, refl)
front_of_front (suc n) (suc k) [] = (0, refl)
front_of_front (suc n) (suc k) (b ∷ bytes) =
    let more = front_of_front n k bytes in
    (suc more.0, ap (λ (l : List ℕ). b ∷ l) more.1)

short_front : (old new : Disk) (left : List ℕ) → CutShort 0 old new → MayLeave new left
    → (n : ℕ) × (left ≡ take n (contents old))
short_front old new left short leaves =
    let at : left ≡ take (length new.synced + leaves.0) (contents new) =
    leaves.1 ∙ sym (take-append-add new.synced new.unsynced leaves.0) in
    let here = front_of_front (length new.synced + leaves.0) (length (contents new)) (contents old) in
    (here.0, at ∙ ap (take (length new.synced + leaves.0)) short.front ∙ here.1)

take_nil : (n : ℕ) → let nil : List ℕ = [] in take n nil ≡ nil
take_nil zero = refl
take_nil (suc n) = refl

all_synced : (d new : Disk) (left : List ℕ) → new ≡ fully_synced d → MayLeave new left → left ≡ contents d
all_synced d new left is leaves =
    leaves.1 ∙ (λ i. (is i).synced ++ take leaves.0 (is i).unsynced)
    ∙ ap (λ (l : List ℕ). contents d ++ l) (take_nil leaves.0) ∙ append-nil (contents d)

pub cut_keeps : (old new : Side → Disk) (s : Side) (image : Image) (es : List Stored) → IsOutdated old s
    → IsCut old new s → MayLeaveBoth new image → IsLive (legible old) es → IsLive (decoded_image image) es
cut_keeps old new s image es outdated cut left live =
    let begins = begins_zero outdated.below.own (contents (old s)) outdated.below.has_own in
    let here : text (fresh s) (contents (old s)) ≡ contents (old s) =
    all_text s (contents (old s)) begins.0 begins.1 in
    let short = short_front (old s) (new s) (image s) cut.0 (left s) in
    stays_live (legible old) (decoded_image image) s short.0 es
    (subst (λ (l : List ℕ). IsBelow l (legible old (other s))) (sym here) outdated.below)
    (ap (text (fresh (other s))) (all_synced (old (other s)) (new (other s)) (image (other s)) cut.1 (left (other s))))
    (ap (text (fresh s)) short.1 ∙ front_text s short.0 (contents (old s)) begins.0 begins.1
    ∙ ap (take short.0) (sym here))
    live

-- ---- what a program finds that knows no sums

not_torn : (len told : ℕ) → 4 ≤ len → 65536 < told
    → (ltb len 4 || (leb 1 told && leb told 65536 && ltb len (4 + told))) ≡ false
not_torn len told a b = grind (arith, nat_tests)

told_letters : (s : Side) (rest : List ℕ) → stated_length (magic s ++ rest) ≡ 1819239275
unfolding stated_length
told_letters A rest = refl
told_letters B rest = refl

long_magic : (s : Side) (rest : List ℕ) → 4 ≤ length (magic s ++ rest)
long_magic A rest = omega (arith, length-append (magic A) rest)
long_magic B rest = omega (arith, length-append (magic B) rest)

summed_torn : (s : Side) (rest : List ℕ) → is_torn (magic s ++ rest) ≡ false
summed_torn s rest =
    not_torn (length (magic s ++ rest)) (stated_length (magic s ++ rest)) (long_magic s rest)
    (omega (arith, told_letters s rest))

-- bytes with sums are no entry, and no stop leaves them of one
summed_file : (s : Side) (bytes : List ℕ) → HasSums s bytes → IsFile bytes [] true
summed_file s bytes sums = record {
  whole = record {
    fit = tt;
    rest = bytes;
    is = refl;
    ends = λ e more fits is. no_sums s bytes (drop 1 (spelling e ++ more)) (is ∙ zero_first e more fits) sums;
  };
  damage = ap (λ (b : Bool). not b || false) (ap is_torn sums.1 ∙ summed_torn s sums.0);
}

empty_file : (bytes : List ℕ) → bytes ≡ [] → IsFile bytes [] false
empty_file bytes empty = file_spelled [] bytes tt refl empty

pub unread : (disks : Side → Disk) (s : Side) → IsSummed disks (other s) → contents (disks s) ≡ []
    → IsDamaged (seen disks)
unread disks A sums empty = (
  λ _. [],
  record {
    is_damaged = pick A false true;
    file = each_side (λ (s : Side). IsFile (seen disks s) [] (pick A false true s))
        (empty_file (contents (disks A)) empty) (summed_file B (contents (disks B)) sums);
    is = refl;
  },
)
unread disks B sums empty = (
  λ _. [],
  record {
    is_damaged = pick B false true;
    file = each_side (λ (s : Side). IsFile (seen disks s) [] (pick B false true s))
        (summed_file A (contents (disks A)) sums) (empty_file (contents (disks B)) empty);
    is = refl;
  },
)
