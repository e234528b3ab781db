-- Which file is live beside an older one.
use Rattle.std.proofs.Common.{◌≡◌, ℕ, zero, suc, ◌<◌, ◌≤◌, Bool, true, false, ltb, cond, ◌||◌, List, [], ◌∷◌, take}
use Rattle.std.proofs.Common.{refl, sym, subst, arith}
use Rattle.std.proofs.lemmas.Bool.{lt-ltb, le-ltb, ltb-true}
use Rattle.lk_disk.specs.Disk.{Disk, other}
use Rattle.lk_disk.specs.declared.device.Side.{Side}
use Rattle.lk_disk.specs.declared.device.Side.TheVariants.{A, B}
use Rattle.lk_store_format.specs.Bases.{has_base, is_misplaced, generation}
use Rattle.lk_store_format.specs.Files.{IsFile}
use Rattle.lk_store_format.specs.declared.stored.Stored.{Stored}
use Rattle.lk_store_format.specs.declared.stored.Stored.TheVariants.{Base, Plain}
use Rattle.lk_store_format.proofs.Whole.{front_file}
use Rattle.lk_log.specs.Images.{Image, verdict, Means, IsLive}
use Rattle.lk_log.specs.StoreValue.{pick}
use Rattle.lk_log.specs.declared.verdict.Verdict.TheVariants.{Damaged, Empty, Live}
use Rattle.lk_summed_disk.specs.Hiding.{without}
use Rattle.lk_node_files.specs.Older.{IsBelow, IsOlder, legible}
use Rattle.lk_node_files.proofs.OlderLaws.{generation_is}

-- ---- what a verdict tells

chosen_a : (m n p q r d f : Bool)
    → cond (m || n) Damaged (cond p (cond d Damaged (Live A))
    (cond q (cond f Damaged (Live B)) (cond r Damaged (cond (d || f) Damaged Empty)))) ≡ Live A
    → (m ≡ false) × (n ≡ false) × (p ≡ true) × (d ≡ false)
chosen_a true n p q r d f e = absurd cc
chosen_a false true p q r d f e = absurd cc
chosen_a false false true q r true f e = absurd cc
chosen_a false false true q r false f e = (refl, refl, refl, refl)
chosen_a false false false true r d true e = absurd cc
chosen_a false false false true r d false e = absurd cc
chosen_a false false false false true d f e = absurd cc
chosen_a false false false false false true f e = absurd cc
chosen_a false false false false false false true e = absurd cc
chosen_a false false false false false false false e = absurd cc

chosen_b : (m n p q r d f : Bool)
    → cond (m || n) Damaged (cond p (cond d Damaged (Live A))
    (cond q (cond f Damaged (Live B)) (cond r Damaged (cond (d || f) Damaged Empty)))) ≡ Live B
    → (m ≡ false) × (n ≡ false) × (q ≡ true) × (f ≡ false)
chosen_b true n p q r d f e = absurd cc
chosen_b false true p q r d f e = absurd cc
chosen_b false false true q r true f e = absurd cc
chosen_b false false true q r false f e = absurd cc
chosen_b false false false true r d true e = absurd cc
chosen_b false false false true r d false e = (refl, refl, refl, refl)
chosen_b false false false false true d f e = absurd cc
chosen_b false false false false false true f e = absurd cc
chosen_b false false false false false false true e = absurd cc
chosen_b false false false false false false false e = absurd cc

-- a file is live: both are in order, and it is of the greater generation, and not damaged
record Wins (es os : List Stored) (is_damaged : Bool) : Type 0 where
  pub base_first : is_misplaced es ≡ false
  pub other_placed : is_misplaced os ≡ false
  pub less : generation os < generation es
  pub sound : is_damaged ≡ false

wins_a : (a b : List Stored) (d f : Bool) → verdict a b d f ≡ Live A → Wins a b d
wins_a a b d f e =
    let c = chosen_a (is_misplaced a) (is_misplaced b) (ltb (generation b) (generation a))
    (ltb (generation a) (generation b)) (ltb 0 (generation a)) d f e in
    record { base_first = c.0; other_placed = c.1; less = ltb-true _ _ c.2; sound = c.3 }

wins_b : (a b : List Stored) (d f : Bool) → verdict a b d f ≡ Live B → Wins b a f
wins_b a b d f e =
    let c = chosen_b (is_misplaced a) (is_misplaced b) (ltb (generation b) (generation a))
    (ltb (generation a) (generation b)) (ltb 0 (generation a)) d f e in
    record { base_first = c.1; other_placed = c.0; less = ltb-true _ _ c.2; sound = c.3 }

-- ---- a file beside one of a smaller generation

pub each_side : (P : Side → Type 0) → P A → P B → (s : Side) → P s
each_side P a b A = a
each_side P a b B = b

live_a : (image : Image) (es os : List Stored) (d : Bool) → IsFile (image A) es false → IsFile (image B) os d
    → is_misplaced es ≡ false → is_misplaced os ≡ false → generation os < generation es → IsLive image es
live_a image es os d here there e o less = record {
  side = A;
  entries = pick A es os;
  means = record {
    is_damaged = pick A false d;
    file = each_side (λ (s : Side). IsFile (image s) (pick A es os s) (pick A false d s)) here there;
    is = rw (e, o, lt-ltb (generation os) (generation es) less) refl;
  };
  are = refl;
}

live_b : (image : Image) (es os : List Stored) (d : Bool) → IsFile (image B) es false → IsFile (image A) os d
    → is_misplaced es ≡ false → is_misplaced os ≡ false → generation os < generation es → IsLive image es
live_b image es os d here there e o less = record {
  side = B;
  entries = pick B es os;
  means = record {
    is_damaged = pick B false d;
    file = each_side (λ (s : Side). IsFile (image s) (pick B es os s) (pick B false d s)) there here;
    is = rw (o, e, le-ltb (generation es) (generation os) (omega arith), lt-ltb (generation os) (generation es) less)
        refl;
  };
  are = refl;
}

-- ---- the first of the entries

has_base-take : (n : ℕ) (es : List Stored) → has_base es ≡ false → has_base (take n es) ≡ false
has_base-take zero es e = refl
has_base-take (suc n) [] e = refl
has_base-take (suc n) (Base b ∷ es) e = absurd cc
has_base-take (suc n) (Plain x ∷ es) e = has_base-take n es e

misplaced-take : (n : ℕ) (es : List Stored) → is_misplaced es ≡ false → is_misplaced (take n es) ≡ false
misplaced-take zero es e = refl
misplaced-take (suc n) [] e = refl
misplaced-take (suc n) (Base b ∷ es) e = has_base-take n es e
misplaced-take (suc n) (Plain x ∷ es) e = absurd cc

generation-take : (n : ℕ) (es : List Stored) → generation (take n es) ≤ generation es
generation-take zero es = omega arith
generation-take (suc n) [] = omega arith
generation-take (suc n) (Base b ∷ es) = omega arith
generation-take (suc n) (Plain x ∷ es) = omega arith

-- ---- the older file

loses_a : (image : Image) (entries : Side → List Stored) → IsBelow (image A) (image B)
    → Means image (Live A) entries → ⊥
loses_a image entries below means =
    let wins = wins_a (entries A) (entries B) (means.is_damaged A) (means.is_damaged B) means.is in
    absurd (omega (
      arith,
      below.less,
      wins.less,
      generation_is (image A) (entries A) below.own (means.file A).whole below.has_own,
      generation_is (image B) (entries B) below.newer (means.file B).whole below.has_newer,
    ))

loses_b : (image : Image) (entries : Side → List Stored) → IsBelow (image B) (image A)
    → Means image (Live B) entries → ⊥
loses_b image entries below means =
    let wins = wins_b (entries A) (entries B) (means.is_damaged A) (means.is_damaged B) means.is in
    absurd (omega (
      arith,
      below.less,
      wins.less,
      generation_is (image B) (entries B) below.own (means.file B).whole below.has_own,
      generation_is (image A) (entries A) below.newer (means.file A).whole below.has_newer,
    ))

-- no more than a front of the older file is left
stays : (before image : Image) (s live : Side) (n : ℕ) (entries : Side → List Stored)
    → IsBelow (before s) (before (other s)) → image (other s) ≡ before (other s) → image s ≡ take n (before s)
    → Means before (Live live) entries → IsLive image (entries live)
stays before image A A n entries below same front means = absurd (loses_a before entries below means)
stays before image A B n entries below same front means =
    let wins = wins_b (entries A) (entries B) (means.is_damaged A) (means.is_damaged B) means.is in
    let left = front_file n (before A) (entries A) (means.file A).whole in
    live_b image (entries B) (take left.count (entries A)) left.is_damaged
    (subst (λ (l : List ℕ). IsFile l (entries B) false) (sym same)
    (subst (IsFile (before B) (entries B)) wins.sound (means.file B)))
    (subst (λ (l : List ℕ). IsFile l (take left.count (entries A)) left.is_damaged) (sym front) left.file)
    wins.base_first (misplaced-take left.count (entries A) wins.other_placed)
    (omega (arith, wins.less, generation-take left.count (entries A)))
stays before image B A n entries below same front means =
    let wins = wins_a (entries A) (entries B) (means.is_damaged A) (means.is_damaged B) means.is in
    let left = front_file n (before B) (entries B) (means.file B).whole in
    live_a image (entries A) (take left.count (entries B)) left.is_damaged
    (subst (λ (l : List ℕ). IsFile l (entries A) false) (sym same)
    (subst (IsFile (before A) (entries A)) wins.sound (means.file A)))
    (subst (λ (l : List ℕ). IsFile l (take left.count (entries B)) left.is_damaged) (sym front) left.file)
    wins.base_first (misplaced-take left.count (entries B) wins.other_placed)
    (omega (arith, wins.less, generation-take left.count (entries B)))
stays before image B B n entries below same front means = absurd (loses_b before entries below means)

pub stays_live : (before image : Image) (s : Side) (n : ℕ) (es : List Stored) → IsBelow (before s) (before (other s))
    → image (other s) ≡ before (other s) → image s ≡ take n (before s) → IsLive before es → IsLive image es
stays_live before image s n es below same front live =
    subst (IsLive image) live.are (stays before image s live.side n live.entries below same front live.means)

other_kept : (disks : Side → Disk) (s : Side) → legible (without s disks) (other s) ≡ legible disks (other s)
other_kept disks A = refl
other_kept disks B = refl

own_gone : (disks : Side → Disk) (s : Side) → legible (without s disks) s ≡ take 0 (legible disks s)
own_gone disks A = refl
own_gone disks B = refl

pub still_live : (disks : Side → Disk) (s : Side) (es : List Stored) → IsOlder disks s
    → IsLive (legible disks) es → IsLive (legible (without s disks)) es
still_live disks s es older live =
    stays_live (legible disks) (legible (without s disks)) s 0 es older.2 (other_kept disks s) (own_gone disks s) live
