-- Parts that are served are slices of the text, and parts that are heard join to the beginning of one.
use Rattle.std.proofs.Common.{◌≡◌, ◌+◌, ◌*◌, ℕ, zero, suc, Bool, true, false, cond, eqb, ltb, eqb-true, ◌&&◌, List, []}
use Rattle.std.proofs.Common.{◌∷◌, ◌++◌, length, take, drop, Option, Some, None, refl, sym, ap, subst, subst₂}
use Rattle.std.specs.Prelude.{slice_get}
use Rattle.std.proofs.lemmas.Bool.{and_parts}
use Rattle.lk_messages.specs.Values.{PartValue}
use Rattle.lk_agreement_laws.specs.Chosen.{Command}
use Rattle.lk_agreement_laws.specs.Datagrams.{Genesis, Datagram}
use Rattle.lk_agreement_laws.specs.Snapshots.{IsSlice}
use Rattle.lk_agreement_laws.specs.Soundness.{Sound}
use Rattle.lk_agreement_laws.proofs.Histories.{slices_concatenate}
use Rattle.lk_learner.specs.Gathering.{first_gathered, with_next, with_next_any, starts_text, heard}
use Rattle.lk_learner.specs.Learners.{GatheredValue}
use Rattle.lk_learner.specs.Parts.{part_of, AreParts}

-- ---- serving

-- a beginning is as many bytes as it has
taken_as_long : (n : ℕ) (xs : List ℕ) → take n xs ≡ take (length (take n xs)) xs
taken_as_long zero xs = refl
taken_as_long (suc n) [] = refl
taken_as_long (suc n) (x ∷ xs) = ap (λ (l : List ℕ). x ∷ l) (taken_as_long n xs)

part_slices : (position offset : ℕ) (text : List ℕ) (p : PartValue) → p ≡ part_of position text offset
    → (p.position ≡ position) × (p.total ≡ length text) × (p.bytes ≡ take (length p.bytes) (drop p.offset text))
part_slices position offset text p is =
    subst (λ (q : PartValue). (q.position ≡ position) × (q.total ≡ length text)
    × (q.bytes ≡ take (length q.bytes) (drop q.offset text))) (sym is)
    (refl, refl, taken_as_long 1024 (drop offset text))

pub parts_slice : (position start k : ℕ) (text : List ℕ) (parts : List PartValue) (p : PartValue)
    → AreParts position text start parts → slice_get parts k ≡ Some p
    → (p.position ≡ position) × (p.total ≡ length text) × (p.bytes ≡ take (length p.bytes) (drop p.offset text))
parts_slice position start k text parts p are at = part_slices position (start + k * 1024) text p (are.each k p at).0

-- ---- gathering

module _ (genesis : Genesis) (sent : List Datagram) (text : List Command → List ℕ) (sound : Sound genesis sent) where
  -- what is gathered is the beginning of the text of a chosen list
  abbrev IsFront : GatheredValue → Type 0
  IsFront g = IsSlice genesis sent text g.position g.total 0 g.bytes

  module _ (p : PartValue) (part : IsSlice genesis sent text p.position p.total p.offset p.bytes) where
    begun_front : IsFront (first_gathered p)
    begun_front = by_offset (eqb p.offset 0) refl
      where
        by_offset : (t : Bool) → eqb p.offset 0 ≡ t → IsSlice genesis sent text p.position p.total 0 (cond t p.bytes [])
        by_offset true e =
            subst (λ (k : ℕ). IsSlice genesis sent text p.position p.total k p.bytes) (eqb-true p.offset 0 e) part
        by_offset false e = record {
          under = part.under;
          chosen = part.chosen;
          position_is = part.position_is;
          total_is = part.total_is;
          slice = refl;
        }

    joined_front : (g : GatheredValue) → IsFront g → IsFront (with_next g p)
    joined_front g front =
        by_test (eqb p.position g.position && (eqb p.total g.total && eqb p.offset (length g.bytes))) refl
      where
        by_test : (t : Bool) → (eqb p.position g.position && (eqb p.total g.total && eqb p.offset (length g.bytes))) ≡ t
            → IsFront (cond t (record { position = g.position; total = g.total; bytes = g.bytes ++ p.bytes }) g)
        by_test true e =
            let at = and_parts (eqb p.position g.position) (eqb p.total g.total && eqb p.offset (length g.bytes)) e in
            let both = and_parts (eqb p.total g.total) (eqb p.offset (length g.bytes)) at.1 in
            let here : IsSlice genesis sent text g.position g.total (length g.bytes) p.bytes =
            subst (λ (i : ℕ). IsSlice genesis sent text i g.total (length g.bytes) p.bytes)
            (eqb-true p.position g.position at.0)
            (subst₂ (λ (t k : ℕ). IsSlice genesis sent text p.position t k p.bytes) (eqb-true p.total g.total both.0)
            (eqb-true p.offset (length g.bytes) both.1) part) in
            slices_concatenate genesis sent sound text g.position g.total g.bytes p.bytes front here
        by_test false e = front

    some_is : (a b : GatheredValue) → Some a ≡ Some b → a ≡ b
    some_is a b same = cc same

    with_old : (old : Option GatheredValue) → ((g : GatheredValue) → old ≡ Some g → IsFront g) → (g : GatheredValue)
        → cond (starts_text old p) (Some (first_gathered p)) (with_next_any old p) ≡ Some g → IsFront g
    with_old None fits g is = subst IsFront (some_is (first_gathered p) g is) begun_front
    with_old (Some k) fits g is = by_newer (ltb k.position p.position) is
      where
        by_newer : (t : Bool) → cond t (Some (first_gathered p)) (Some (with_next k p)) ≡ Some g → IsFront g
        by_newer true same = subst IsFront (some_is (first_gathered p) g same) begun_front
        by_newer false same = subst IsFront (some_is (with_next k p) g same) (joined_front k (fits k refl))

    -- so it goes on being
    pub heard_front : (e : ℕ) (old : Option GatheredValue) → ((g : GatheredValue) → old ≡ Some g → IsFront g)
        → (g : GatheredValue) → heard e old p ≡ Some g → IsFront g
    heard_front e old fits g is = by_test (ltb e p.position) is
      where
        by_test : (t : Bool) → cond t (cond (starts_text old p) (Some (first_gathered p)) (with_next_any old p)) old
            ≡ Some g
            → IsFront g
        by_test true same = with_old old fits g same
        by_test false same = fits g same
