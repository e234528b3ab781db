-- The greatest position of the notes so far.
use native.Mathlib.Omega.{arith}
use Rattle.std.proofs.Common.{◌≡◌, ◌≤◌, ◌⊎◌, inl, inr, refl, sym, subst, ℕ, List, [], ◌∷◌}
use Rattle.std.specs.Prelude.{max}
use Rattle.std.proofs.Math.Nat.{le-max_left, le-max_right, le_trans}
use Rattle.lk_node_interface.specs.declared.note.Note.{Note}
use Rattle.lk_random_schedules.specs.Lines.{ran_at, HasRun, IsFurthest}

-- what is known where these notes are left
pub record SoFar (all left : List Note) (far : ℕ) : Type 0 where
  pub most : (q : ℕ) → HasRun all q → (q ≤ far) ⊎ HasRun left q
  pub run : (far ≡ 0) ⊎ HasRun all far
  pub within : (q : ℕ) → HasRun left q → HasRun all q

pub begun : (all : List Note) → SoFar all all 0
begun all = record { most = λ q r. inr r; run = inl refl; within = λ q r. r }

stays : (q far : ℕ) (note : Note) (left : List Note) → (q ≤ far) ⊎ HasRun (note ∷ left) q
    → (q ≤ max far (ran_at note)) ⊎ HasRun left q
stays q far note left (inl low) = inl (le_trans low (le-max_left far (ran_at note)))
stays q far note left (inr (inl is)) = inl (subst (λ k. k ≤ max far (ran_at note)) is (le-max_right far (ran_at note)))
stays q far note left (inr (inr later)) = inr later

one_of : (a b : ℕ) → (max a b ≡ a) ⊎ (max a b ≡ b)
one_of a b = grind (arith)

greater : (all : List Note) (far p : ℕ) → (max far p ≡ far) ⊎ (max far p ≡ p) → (far ≡ 0) ⊎ HasRun all far
    → HasRun all p → (max far p ≡ 0) ⊎ HasRun all (max far p)
greater all far p (inl is) old new = subst (λ k. (k ≡ 0) ⊎ HasRun all k) (sym is) old
greater all far p (inr is) old new = inr (subst (HasRun all) (sym is) new)

pub passed : (all left : List Note) (note : Note) (far : ℕ) → SoFar all (note ∷ left) far
    → SoFar all left (max far (ran_at note))
passed all left note far s = record {
  most = λ q r. stays q far note left (s.most q r);
  run = greater all far (ran_at note) (one_of far (ran_at note)) s.run (s.within (ran_at note) (inl refl));
  within = λ q r. s.within q (inr r);
}

low : (q far : ℕ) → (q ≤ far) ⊎ HasRun [] q → q ≤ far
low q far (inl is) = is
low q far (inr none) = absurd none

pub ended : (all : List Note) (far : ℕ) → SoFar all [] far → IsFurthest all far
ended all far s = record { most = λ q r. low q far (s.most q r); run = s.run }
