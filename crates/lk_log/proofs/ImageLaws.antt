-- What both files come to.
use Rattle.std.proofs.Common.{◌≡◌, ℕ, zero, suc, ◌<◌, ◌≤◌, Bool, true, false, ltb, cond, ◌||◌, List, [], ◌∷◌, ◌++◌}
use Rattle.std.proofs.Common.{length, take, refl, sym, ◌∙◌, ap, subst, arith}
use Rattle.std.specs.List.{AllByRecursion}
use Rattle.std.proofs.lemmas.Bool.{lt-ltb, le-ltb, ltb-true, ltb-false}
use Rattle.lk_disk.specs.Disk.{Disk, other, contents}
use Rattle.lk_disk.specs.declared.device.Side.{Side}
use Rattle.lk_disk.specs.declared.device.Side.TheVariants.{A, B}
use Rattle.lk_types.specs.declared.entry.Entry.{Entry}
use Rattle.lk_store_format.specs.Entries.{spelling_of_all, IsStored, plain}
use Rattle.lk_store_format.specs.Files.{IsFile}
use Rattle.lk_store_format.specs.Bases.{has_base, is_misplaced, generation}
use Rattle.lk_store_format.specs.declared.stored.Stored.{Stored}
use Rattle.lk_store_format.specs.declared.stored.Stored.TheVariants.{Base, Plain}
use Rattle.lk_store_format.proofs.Whole.{file_unique}
use Rattle.lk_log.specs.Images.{Image, verdict, Means, IsLive, seen}
use Rattle.lk_log.specs.Stores.{FoundLive}
use Rattle.lk_log.specs.StoreValue.{pick}
use Rattle.lk_log.specs.declared.verdict.Verdict.{Verdict}
use Rattle.lk_log.specs.declared.verdict.Verdict.TheVariants.{Damaged, Empty, Live}

-- ---- lists of entries

has_base-take : (n : ℕ) (es : List Stored) → has_base es ≡ false → has_base (take n es) ≡ false
has_base-take zero es e = refl
has_base-take (suc n) [] e = refl
has_base-take (suc n) (Base b ∷ es) e = absurd cc
has_base-take (suc n) (Plain x ∷ es) e = has_base-take n es e

pub misplaced-take : (n : ℕ) (es : List Stored) → is_misplaced es ≡ false → is_misplaced (take n es) ≡ false
misplaced-take zero es e = refl
misplaced-take (suc n) [] e = refl
misplaced-take (suc n) (Base b ∷ es) e = has_base-take n es e
misplaced-take (suc n) (Plain x ∷ es) e = absurd cc

has_base-plain : (es : List Stored) (given : List Entry) → has_base es ≡ false → has_base (es ++ plain given) ≡ false
has_base-plain [] [] e = refl
has_base-plain [] (x ∷ given) e = has_base-plain [] given refl
has_base-plain (Base b ∷ es) given e = absurd cc
has_base-plain (Plain x ∷ es) given e = has_base-plain es given e

-- after a Base what is given is well placed
pub misplaced-plain : (es : List Stored) (given : List Entry) → 0 < generation es → is_misplaced es ≡ false
    → is_misplaced (es ++ plain given) ≡ false
misplaced-plain [] given some e = absurd (omega arith)
misplaced-plain (Base b ∷ es) given some e = has_base-plain es given e
misplaced-plain (Plain x ∷ es) given some e = absurd cc

pub generation-append : (es fs : List Stored) → 0 < generation es → generation (es ++ fs) ≡ generation es
generation-append [] fs some = absurd (omega arith)
generation-append (Base b ∷ es) fs some = refl
generation-append (Plain x ∷ es) fs some = refl

pub generation-take : (n : ℕ) (es : List Stored) → generation (take n es) ≤ generation es
generation-take zero es = omega arith
generation-take (suc n) [] = omega arith
generation-take (suc n) (Base b ∷ es) = omega arith
generation-take (suc n) (Plain x ∷ es) = omega arith

-- ---- sides

pub other_other : (s : Side) → other (other s) ≡ s
other_other A = refl
other_other B = refl

pub each_side : (P : Side → Type 0) (s : Side) → P s → P (other s) → (t : Side) → P t
each_side P A here there A = here
each_side P A here there B = there
each_side P B here there A = there
each_side P B here there B = here

-- ---- the verdict

live_a : (es os : List Stored) (d : Bool) → is_misplaced es ≡ false → is_misplaced os ≡ false
    → generation os < generation es → verdict es os false d ≡ Live A
live_a es os d e o less = rw (e, o, lt-ltb (generation os) (generation es) less) refl

live_b : (os es : List Stored) (d : Bool) → is_misplaced os ≡ false → is_misplaced es ≡ false
    → generation os < generation es → verdict os es d false ≡ Live B
live_b os es d o e less =
    rw (o, e, le-ltb (generation es) (generation os) (omega arith), lt-ltb (generation os) (generation es) less) refl

pub is_live : (image : Image) (s : Side) (es os : List Stored) (d : Bool) → IsFile (image s) es false
    → IsFile (image (other s)) os d → is_misplaced es ≡ false → is_misplaced os ≡ false
    → generation os < generation es → IsLive image es
is_live image A es os d here there e o less = record {
  side = A;
  entries = pick A es os;
  means = record {
    is_damaged = pick A false d;
    file = each_side (λ (s : Side). IsFile (image s) (pick A es os s) (pick A false d s)) A here there;
    is = live_a es os d e o less;
  };
  are = refl;
}
is_live image B es os d here there e o less = record {
  side = B;
  entries = pick B es os;
  means = record {
    is_damaged = pick B false d;
    file = each_side (λ (s : Side). IsFile (image s) (pick B es os s) (pick B false d s)) B here there;
    is = live_b os es d o e less;
  };
  are = refl;
}

-- ---- an image comes to one thing

pub same_entries : (image : Image) (v w : Verdict) (es fs : Side → List Stored) → Means image v es → Means image w fs
    → (s : Side) → es s ≡ fs s
same_entries image v w es fs a b s =
    (file_unique (image s) (es s) (fs s) (a.is_damaged s) (b.is_damaged s) (a.file s) (b.file s)).0

pub one_verdict : (image : Image) (v w : Verdict) (es fs : Side → List Stored) → Means image v es
    → Means image w fs → v ≡ w
one_verdict image v w es fs a b =
    let at_a = file_unique (image A) (es A) (fs A) (a.is_damaged A) (b.is_damaged A) (a.file A) (b.file A) in
    let at_b = file_unique (image B) (es B) (fs B) (a.is_damaged B) (b.is_damaged B) (a.file B) (b.file B) in
    sym a.is ∙ (λ i. verdict (at_a.0 i) (at_b.0 i) (at_a.1 i) (at_b.1 i)) ∙ b.is

side_of : Verdict → Side
side_of (Live s) = s
side_of Damaged = A
side_of Empty = A

pub live_unique : (image : Image) (es fs : List Stored) → IsLive image es → IsLive image fs → es ≡ fs
unfolding side_of
live_unique image es fs a b =
    let side : a.side ≡ b.side =
    ap side_of (one_verdict image (Live a.side) (Live b.side) a.entries b.entries a.means b.means) in
    sym a.are ∙ same_entries image (Live a.side) (Live b.side) a.entries b.entries a.means b.means a.side
    ∙ ap b.entries side ∙ b.are

pub means_of : (image : Image) (a b : List Stored) (d f : Bool) (v : Verdict) → IsFile (image A) a d
    → IsFile (image B) b f → v ≡ verdict a b d f → Means image v (pick A a b)
means_of image a b d f v at_a at_b is =
    record {
      is_damaged = pick A d f;
      file = each_side (λ (s : Side). IsFile (image s) (pick A a b s) (pick A d f s)) A at_a at_b;
      is = sym is;
    }

-- ---- what a verdict tells

chosen_a : (m n p q r d f : Bool)
    → cond (m || n) Damaged (cond p (cond d Damaged (Live A))
    (cond q (cond f Damaged (Live B)) (cond r Damaged (cond (d || f) Damaged Empty)))) ≡ Live A
    → (m ≡ false) × (n ≡ false) × (p ≡ true) × (d ≡ false)
chosen_a true n p q r d f e = absurd cc
chosen_a false true p q r d f e = absurd cc
chosen_a false false true q r true f e = absurd cc
chosen_a false false true q r false f e = (refl, refl, refl, refl)
chosen_a false false false true r d true e = absurd cc
chosen_a false false false true r d false e = absurd cc
chosen_a false false false false true d f e = absurd cc
chosen_a false false false false false true f e = absurd cc
chosen_a false false false false false false true e = absurd cc
chosen_a false false false false false false false e = absurd cc

chosen_b : (m n p q r d f : Bool)
    → cond (m || n) Damaged (cond p (cond d Damaged (Live A))
    (cond q (cond f Damaged (Live B)) (cond r Damaged (cond (d || f) Damaged Empty)))) ≡ Live B
    → (m ≡ false) × (n ≡ false) × (q ≡ true) × (f ≡ false)
chosen_b true n p q r d f e = absurd cc
chosen_b false true p q r d f e = absurd cc
chosen_b false false true q r true f e = absurd cc
chosen_b false false true q r false f e = absurd cc
chosen_b false false false true r d true e = absurd cc
chosen_b false false false true r d false e = (refl, refl, refl, refl)
chosen_b false false false false true d f e = absurd cc
chosen_b false false false false false true f e = absurd cc
chosen_b false false false false false false true e = absurd cc
chosen_b false false false false false false false e = absurd cc

-- what makes a file live, beside the other one
pub record Wins (es os : List Stored) (d : Bool) : Type 0 where
  pub base_first : is_misplaced es ≡ false
  pub other_placed : is_misplaced os ≡ false
  pub less : generation os < generation es
  pub sound : d ≡ false

pub wins_a : (a b : List Stored) (d f : Bool) → verdict a b d f ≡ Live A → Wins a b d
wins_a a b d f e =
    let c = chosen_a (is_misplaced a) (is_misplaced b) (ltb (generation b) (generation a))
    (ltb (generation a) (generation b)) (ltb 0 (generation a)) d f e in
    record { base_first = c.0; other_placed = c.1; less = ltb-true _ _ c.2; sound = c.3 }

pub wins_b : (a b : List Stored) (d f : Bool) → verdict a b d f ≡ Live B → Wins b a f
wins_b a b d f e =
    let c = chosen_b (is_misplaced a) (is_misplaced b) (ltb (generation b) (generation a))
    (ltb (generation a) (generation b)) (ltb 0 (generation a)) d f e in
    record { base_first = c.1; other_placed = c.0; less = ltb-true _ _ c.2; sound = c.3 }

-- ---- an empty image

chosen_empty : (m n p q r d f : Bool)
    → cond (m || n) Damaged (cond p (cond d Damaged (Live A))
    (cond q (cond f Damaged (Live B)) (cond r Damaged (cond (d || f) Damaged Empty)))) ≡ Empty
    → ((m ≡ false) × (n ≡ false) × (p ≡ false) × (q ≡ false) × (r ≡ false)) × ((d ≡ false) × (f ≡ false))
chosen_empty true n p q r d f e = absurd cc
chosen_empty false true p q r d f e = absurd cc
chosen_empty false false true q r true f e = absurd cc
chosen_empty false false true q r false f e = absurd cc
chosen_empty false false false true r d true e = absurd cc
chosen_empty false false false true r d false e = absurd cc
chosen_empty false false false false true d f e = absurd cc
chosen_empty false false false false false true f e = absurd cc
chosen_empty false false false false false false true e = absurd cc
chosen_empty false false false false false false false e = ((refl, refl, refl, refl, refl), (refl, refl))

-- whole entries that are well placed and have no generation are none
none_there : (es : List Stored) → AllByRecursion IsStored es → is_misplaced es ≡ false → generation es ≤ 0 → es ≡ []
none_there [] fit e none = refl
none_there (Base b ∷ es) fit e none = absurd (omega (arith, fit.0.0.0))
none_there (Plain x ∷ es) fit e none = absurd cc

-- neither file has an entry, and nothing is damaged
pub record Nothing (image : Image) : Type 0 where
  pub a : IsFile (image A) [] false
  pub b : IsFile (image B) [] false

pub nothing_there : (image : Image) (es : Side → List Stored) → Means image Empty es → Nothing image
nothing_there image es m =
    let c = chosen_empty (is_misplaced (es A)) (is_misplaced (es B)) (ltb (generation (es B)) (generation (es A)))
    (ltb (generation (es A)) (generation (es B))) (ltb 0 (generation (es A))) (m.is_damaged A) (m.is_damaged B) m.is in
    let at_a : generation (es A) ≤ 0 = ltb-false _ _ c.0.4 in
    let at_b : generation (es B) ≤ generation (es A) = ltb-false _ _ c.0.3 in
    let none_a : es A ≡ [] = none_there (es A) (m.file A).whole.fit c.0.0 at_a in
    let none_b : es B ≡ [] = none_there (es B) (m.file B).whole.fit c.0.1 (omega arith) in
    record {
      a = subst (λ (d : Bool). IsFile (image A) [] d) c.1.0
          (subst (λ (l : List Stored). IsFile (image A) l (m.is_damaged A)) none_a (m.file A));
      b = subst (λ (d : Bool). IsFile (image B) [] d) c.1.1
          (subst (λ (l : List Stored). IsFile (image B) l (m.is_damaged B)) none_b (m.file B));
    }

pub means_same : (before image : Image) (v : Verdict) (es : Side → List Stored) → ((s : Side) → before s ≡ image s)
    → Means before v es → Means image v es
means_same before image v es same m =
    record {
      is_damaged = m.is_damaged;
      file = λ s. subst (λ (l : List ℕ). IsFile l (es s) (m.is_damaged s)) (same s) (m.file s);
      is = m.is;
    }

-- ---- a file that was found live

pub found_a : (disks : Side → Disk) (a b : List Stored) (d f : Bool) (end size : ℕ) → IsFile (contents (disks A)) a d
    → IsFile (contents (disks B)) b f → Live A ≡ verdict a b d f → end ≡ length (spelling_of_all a)
    → size ≡ length (contents (disks A)) → FoundLive disks A a end size
found_a disks a b d f end size at_a at_b is ends sized =
    let w = wins_a a b d f (sym is) in
    record {
      file = subst (λ (x : Bool). IsFile (contents (disks A)) a x) w.sound at_a;
      base_first = w.base_first;
      older = record { entries = b; is_damaged = f; file = at_b; base_first = w.other_placed; less = w.less };
      ends = ends;
      sized = sized;
    }

pub found_b : (disks : Side → Disk) (a b : List Stored) (d f : Bool) (end size : ℕ) → IsFile (contents (disks A)) a d
    → IsFile (contents (disks B)) b f → Live B ≡ verdict a b d f → end ≡ length (spelling_of_all b)
    → size ≡ length (contents (disks B)) → FoundLive disks B b end size
found_b disks a b d f end size at_a at_b is ends sized =
    let w = wins_b a b d f (sym is) in
    record {
      file = subst (λ (x : Bool). IsFile (contents (disks B)) b x) w.sound at_b;
      base_first = w.base_first;
      older = record { entries = a; is_damaged = d; file = at_a; base_first = w.other_placed; less = w.less };
      ends = ends;
      sized = sized;
    }

pub found_is_live : (disks : Side → Disk) (live : Side) (es : List Stored) (end size : ℕ)
    → FoundLive disks live es end size → IsLive (seen disks) es
found_is_live disks live es end size f =
    is_live (seen disks) live es f.older.entries f.older.is_damaged f.file f.older.file f.base_first
    f.older.base_first f.older.less

pub found_positive : (disks : Side → Disk) (live : Side) (es : List Stored) (end size : ℕ)
    → FoundLive disks live es end size → 0 < generation es
found_positive disks live es end size f = omega (arith, f.older.less)
