-- A walk along nodes, from each to the next above it.
use Rattle.std.proofs.Common.{◌≡◌, ℕ, Bool, List, [], ◌∷◌, ◌++◌, Some, None, refl, sym, ◌∙◌, ap, subst}
use Rattle.lk_members.specs.Ports.{IsNextAbove, AreAllAbove}

numbers_behind : (xs ys zs : List ℕ) → (xs ++ ys) ++ zs ≡ xs ++ (ys ++ zs)
numbers_behind [] ys zs = refl
numbers_behind (x ∷ xs) ys zs = ap (λ (ls : List ℕ). x ∷ ls) (numbers_behind xs ys zs)

-- what is walked from here on completes what was walked so far
abbrev pub Completes : (ℕ → Bool) → ℕ → List ℕ → Type 0
Completes is low front = (rest : List ℕ) → AreAllAbove is low rest → AreAllAbove is 0 (front ++ rest)

pub walked_more : (is : ℕ → Bool) (low n : ℕ) (front more : List ℕ) → IsNextAbove is low (Some n)
    → Completes is low front → more ≡ front ++ n ∷ [] → Completes is n more
walked_more is low n front more next so_far e = λ rest all.
    subst (AreAllAbove is 0) (sym (numbers_behind front (n ∷ []) rest) ∙ ap (λ (ns : List ℕ). ns ++ rest) (sym e))
    (so_far (n ∷ rest) (next, all))

nothing_behind : (xs : List ℕ) → xs ++ [] ≡ xs
nothing_behind [] = refl
nothing_behind (x ∷ xs) = ap (λ (ls : List ℕ). x ∷ ls) (nothing_behind xs)

pub walked_all : (is : ℕ → Bool) (low : ℕ) (front : List ℕ) → IsNextAbove is low None
    → Completes is low front → AreAllAbove is 0 front
walked_all is low front none so_far = subst (AreAllAbove is 0) (nothing_behind front) (so_far [] none)
