-- Lists and their beginnings.
use Rattle.std.proofs.Common.{◌≡◌, ℕ, zero, suc, ◌<◌, Bool, true, false, cond, List, [], ◌∷◌, ◌++◌, length, take, Some}
use Rattle.std.proofs.Common.{slice_get, Contains, filter, get_or, ◌⊎◌, refl, ap, sym, ◌∙◌, inl, inr, arith}
use Rattle.std.proofs.lemmas.Bool.{false≢true}
use Rattle.std.proofs.lemmas.List.Elements.{All-contains, filter_passes}

pub entry_at : {X : Type 0} (L : List X) (k : ℕ) → k < length L → (v : X) × (slice_get L k ≡ Some v)
entry_at [] k h = absurd (omega arith)
entry_at (x ∷ L) zero h = (x, refl)
entry_at (x ∷ L) (suc k) h = entry_at L k (omega arith)

pub take_next : {X : Type 0} (L : List X) (k : ℕ) (v : X) → slice_get L k ≡ Some v → take (suc k) L ≡ take k L ++ v ∷ []
take_next [] k v h = absurd cc
take_next (x ∷ L) zero v h = cc
take_next (x ∷ L) (suc k) v h = ap (λ l. x ∷ l) (take_next L k v h)

pub cons_cases : {X : Type 0} (y : X) (ys : List X) (x : X) → Contains (y ∷ ys) x → (y ≡ x) ⊎ Contains ys x
cons_cases y ys x h = at_place h.0 h.1 h.2
  where
    at_place : (k : ℕ) → k < length (y ∷ ys) → get_or (y ∷ ys) k x ≡ x → (y ≡ x) ⊎ Contains ys x
    at_place zero lt e = inl e
    at_place (suc k) lt e = inr (k, omega arith, e)

pub only : {X : Type 0} (x y : X) → Contains (x ∷ []) y → x ≡ y
only x y h = elim (cons_cases x [] y h) [ inl e ↦ e | inr n ↦ absurd (omega (arith, n.1)) ]

pub contains_more : {X : Type 0} (y : X) (ys : List X) (x : X) → Contains ys x → Contains (y ∷ ys) x
contains_more y ys x h = (suc h.0, omega (arith, h.1), h.2)

pub filter_has : {X : Type 0} (p : X → Bool) (xs : List X) (x : X) → Contains xs x → p x ≡ true
    → Contains (filter p xs) x
filter_has p [] x h pass = absurd (omega (arith, h.1))
filter_has {X} p (y ∷ ys) x h pass = here (p y) refl (cons_cases y ys x h) (λ c. filter_has p ys x c pass)
  where
    here : (t : Bool) → p y ≡ t → (y ≡ x) ⊎ Contains ys x → (Contains ys x → Contains (filter p ys) x)
        → Contains (cond t (y ∷ filter p ys) (filter p ys)) x
    here true e (inl same) rest = (0, omega arith, same)
    here true e (inr c) rest = contains_more y (filter p ys) x (rest c)
    here false e (inl same) rest = absurd (false≢true (sym e ∙ ap p same ∙ pass))
    here false e (inr c) rest = rest c

pub filter_from : {X : Type 0} (p : X → Bool) (xs : List X) (x : X) → Contains (filter p xs) x → Contains xs x
filter_from p [] x h = h
filter_from {X} p (y ∷ ys) x h = here (p y) h (filter_from p ys x)
  where
    here : (t : Bool) → Contains (cond t (y ∷ filter p ys) (filter p ys)) x
        → (Contains (filter p ys) x → Contains ys x) → Contains (y ∷ ys) x
    here true c rest = elim (cons_cases y (filter p ys) x c)
        [ inl same ↦ (0, omega arith, same) | inr d ↦ contains_more y ys x (rest d) ]
    here false c rest = contains_more y ys x (rest c)

pub filter_passes_at : {X : Type 0} (p : X → Bool) (xs : List X) (x : X) → Contains (filter p xs) x → p x ≡ true
filter_passes_at p xs x h = All-contains (λ y. p y ≡ true) (filter p xs) x (filter_passes p xs) h
