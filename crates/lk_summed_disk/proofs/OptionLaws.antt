-- What a device with or without sums is, by its files.
use Rattle.std.proofs.Common.{◌≡◌, ◌∙◌, ◌↔◌, ℕ, min, Bool, true, false, List, length, take}
use Rattle.std.proofs.Common.{refl, sym, ap, subst, arith, take_all, inl, inr}
use Rattle.std.proofs.lemmas.Bool.{cases_lt, true≢false, false≢true, false_from_ne_true}
use Rattle.std.proofs.lemmas.List.{take_at}
use Rattle.lk_disk.specs.Disk.{Disk, contents}
use Rattle.lk_disk.specs.declared.device.Side.{Side}
use Rattle.lk_disk.specs.declared.device.Side.TheVariants.{A, B}
use Rattle.lk_summed_disk.specs.Frames.{magic, HasSums}
use Rattle.lk_summed_disk.specs.Beginnings.{HasBegun, IsFront}
use Rattle.lk_summed_disk.specs.GatheredValue.{GatheredValue, gathered_at}
use Rattle.lk_summed_disk.specs.Opened.{IsSoundOn, TurnsOn}
use Rattle.lk_summed_disk.specs.Options.{IsWanted, OpensAs}
use Rattle.lk_summed_disk.specs.Readers.{decoded}
use Rattle.lk_summed_disk.specs.declared.optional_sums.OptionalSums.TheVariants.{Without, With}
use Rattle.lk_summed_disk.proofs.PlaceLaws.{length-magic}

-- a file with sums has begun with them
pub sums_begun : (s : Side) (bytes : List ℕ) → HasSums s bytes → HasBegun s bytes
sums_begun s bytes has =
    let is : take 8 bytes ≡ magic s = ap (take 8) has.1 ∙ take_at (magic s) has.0 8 (length-magic s) in
    let eight : length (take 8 bytes) ≡ 8 = ap length is ∙ length-magic s in
    record {
      some = λ none. absurd (omega (arith, eight, ap length none));
      is = is ∙ sym (take_all (length (take 8 bytes)) (magic s) (omega (arith, eight, length-magic s)));
    }

-- what is read of its start
pub front_read : (bytes : List ℕ) (count : ℕ) → count ≡ min (length bytes) 8 → take count bytes ≡ take 8 bytes
front_read bytes count is = elim (cases_lt (length bytes) 8) [
  | inl less ↦ take_all count bytes (omega (arith, is, less)) ∙ sym (take_all 8 bytes (omega (arith, less)))
  | inr more ↦ let eight : count ≡ 8 = omega (arith, is, more) in ap (λ (n : ℕ). take n bytes) eight
]

pub front_begun : (s : Side) (bytes front : List ℕ) (count : ℕ) (r : Bool) → count ≡ min (length bytes) 8
    → front ≡ take count bytes → (r ≡ true ↔ IsFront s front) → (r ≡ true ↔ HasBegun s bytes)
front_begun s bytes front count r counts is says =
    subst (λ (l : List ℕ). r ≡ true ↔ IsFront s l) (is ∙ front_read bytes count counts) says

-- ---- where sums are on

both : (P : Side → Type 0) → P A → P B → (s : Side) → P s
both P a b A = a
both P a b B = b

pub turns_on : (asked on x y : Bool) (disks : Side → Disk) → (x ≡ true ↔ HasSums A (contents (disks A)))
    → (y ≡ true ↔ HasSums B (contents (disks B))) → (asked ≡ true → on ≡ true) → (x ≡ true → on ≡ true)
    → (y ≡ true → on ≡ true) → (asked ≡ false → x ≡ false → y ≡ false → on ≡ false) → TurnsOn asked disks on
turns_on asked on x y disks xs ys by_asked by_x by_y off = record {
  by_option = by_asked;
  by_file = both (λ (s : Side). HasSums s (contents (disks s)) → on ≡ true) (λ has. by_x (xs.1 has))
      (λ has. by_y (ys.1 has));
  neither = λ not_asked none.
      off not_asked (false_from_ne_true x (λ t. none A (xs.0 t))) (false_from_ne_true y (λ t. none B (ys.0 t)));
}

pub is_wanted : (asked on x y : Bool) (disks : Side → Disk) → (x ≡ true ↔ HasBegun A (contents (disks A)))
    → (y ≡ true ↔ HasBegun B (contents (disks B))) → (asked ≡ true → on ≡ true) → (x ≡ true → on ≡ true)
    → (y ≡ true → on ≡ true) → (asked ≡ false → x ≡ false → y ≡ false → on ≡ false) → IsWanted asked disks on
is_wanted asked on x y disks xs ys by_asked by_x by_y off = record {
  by_option = by_asked;
  by_file = both (λ (s : Side). HasBegun s (contents (disks s)) → on ≡ true) (λ has. by_x (xs.1 has))
      (λ has. by_y (ys.1 has));
  neither = λ not_asked none.
      off not_asked (false_from_ne_true x (λ t. none A (xs.0 t))) (false_from_ne_true y (λ t. none B (ys.0 t)));
}

-- ---- what is opened

pub opens_without : {D : Type 0} (disk : D → Side → Disk) (d : D) (asked wanted : Bool)
    → IsWanted asked (disk d) wanted → wanted ≡ false → OpensAs disk asked (disk d) (Without d)
opens_without disk d asked wanted is off = record {
  shows = λ s. refl;
  sound = λ on. absurd (false≢true on);
  by_option = λ on. absurd (true≢false (sym (is.by_option on) ∙ off));
  by_file = λ s has. absurd (true≢false (sym (is.by_file s (sums_begun s (contents (disk d s)) has)) ∙ off));
  off = λ not_asked none. refl;
  begun = λ s has. absurd (true≢false (sym (is.by_file s has) ∙ off));
  as_it_is = λ not_asked none. refl;
}

pub opens_with : {D : Type 0} (disk : D → Side → Disk) (v : GatheredValue) (asked wanted : Bool)
    (disks : Side → Disk) → IsWanted asked disks wanted → wanted ≡ true
    → ((s : Side) → gathered_at v s ≡ decoded s (disks s)) → ((s : Side) → IsSoundOn disks s)
    → TurnsOn asked disks v.inner.sums → OpensAs disk asked disks (With v)
opens_with disk v asked wanted disks is on shows sound turns = record {
  shows = shows;
  sound = λ _. sound;
  by_option = turns.by_option;
  by_file = turns.by_file;
  off = turns.neither;
  begun = λ s has. refl;
  as_it_is = λ not_asked none. absurd (true≢false (sym on ∙ is.neither not_asked none));
}
