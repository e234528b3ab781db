-- Elements of lists.
use Rattle.std.proofs.Common.{◌≡◌, ◌∙◌, ◌⊎◌, ℕ, zero, suc, ◌<◌, Bool, true, false, cond, Some, None, List, [], ◌∷◌}
use Rattle.std.proofs.Common.{length, Contains, map, filter, find, refl, ap, sym, inl, inr, arith, get_or}
use Rattle.std.specs.List.{list_any}
use Rattle.std.proofs.lemmas.Bool.{false≢true}
use Rattle.std.proofs.lemmas.List.Elements.{All-contains, filter_passes}
use Rattle.std.proofs.lemmas.Bool.{cases_Bool, or_cases}

pub cons_cases : {X : Type 0} (y : X) (ys : List X) (x : X) → Contains (y ∷ ys) x → (y ≡ x) ⊎ Contains ys x
cons_cases y ys x h = at_place h.0 h.1 h.2
  where
    at_place : (k : ℕ) → k < length (y ∷ ys) → get_or (y ∷ ys) k x ≡ x → (y ≡ x) ⊎ Contains ys x
    at_place zero lt e = inl e
    at_place (suc k) lt e = inr (k, omega arith, e)

pub only : {X : Type 0} (x y : X) → Contains (x ∷ []) y → x ≡ y
only x y h = elim (cons_cases x [] y h) [ inl e ↦ e | inr n ↦ absurd (omega (arith, n.1)) ]

pub contains_more : {X : Type 0} (y : X) (ys : List X) (x : X) → Contains ys x → Contains (y ∷ ys) x
contains_more y ys x h = (suc h.0, omega (arith, h.1), h.2)

pub filter_has : {X : Type 0} (p : X → Bool) (xs : List X) (x : X) → Contains xs x → p x ≡ true
    → Contains (filter p xs) x
filter_has p [] x h pass = absurd (omega (arith, h.1))
filter_has {X} p (y ∷ ys) x h pass = here (p y) refl (cons_cases y ys x h) (λ c. filter_has p ys x c pass)
  where
    here : (t : Bool) → p y ≡ t → (y ≡ x) ⊎ Contains ys x → (Contains ys x → Contains (filter p ys) x)
        → Contains (cond t (y ∷ filter p ys) (filter p ys)) x
    here true e (inl same) rest = (0, omega arith, same)
    here true e (inr c) rest = contains_more y (filter p ys) x (rest c)
    here false e (inl same) rest = absurd (false≢true (sym e ∙ ap p same ∙ pass))
    here false e (inr c) rest = rest c

pub filter_from : {X : Type 0} (p : X → Bool) (xs : List X) (x : X) → Contains (filter p xs) x → Contains xs x
filter_from p [] x h = h
filter_from {X} p (y ∷ ys) x h = here (p y) h (filter_from p ys x)
  where
    here : (t : Bool) → Contains (cond t (y ∷ filter p ys) (filter p ys)) x
        → (Contains (filter p ys) x → Contains ys x) → Contains (y ∷ ys) x
    here true c rest = elim (cons_cases y (filter p ys) x c)
        [ inl same ↦ (0, omega arith, same) | inr d ↦ contains_more y ys x (rest d) ]
    here false c rest = contains_more y ys x (rest c)

pub filter_passes_at : {X : Type 0} (p : X → Bool) (xs : List X) (x : X) → Contains (filter p xs) x → p x ≡ true
filter_passes_at p xs x h = All-contains (λ y. p y ≡ true) (filter p xs) x (filter_passes p xs) h

pub map_has : {X Y : Type 0} (f : X → Y) (xs : List X) (x : X) → Contains xs x → Contains (map f xs) (f x)
map_has f [] x h = absurd (omega (arith, h.1))
map_has f (y ∷ ys) x h =
    elim (cons_cases y ys x h) [
      | inl is ↦ (0, omega arith, ap f is)
      | inr in' ↦ contains_more (f y) (map f ys) (f x) (map_has f ys x in')
    ]

pub map_from : {X Y : Type 0} (f : X → Y) (xs : List X) (y : Y) → Contains (map f xs) y
    → (x : X) × Contains xs x × (f x ≡ y)
map_from f [] y h = absurd (omega (arith, h.1))
map_from f (x ∷ xs) y h =
    elim (cons_cases (f x) (map f xs) y h) [
      | inl is ↦ (x, (0, omega arith, refl), is)
      | inr in' ↦ (let r = map_from f xs y in' in (r.0, contains_more x xs r.0 r.1, r.2))
    ]

-- some element passes
pub any_from : {X : Type 0} (p : X → Bool) (xs : List X) → list_any p xs ≡ true → (x : X) × Contains xs x × (p x ≡ true)
any_from p [] h = absurd (cc h)
any_from p (x ∷ xs) h =
    elim (or_cases (p x) (list_any p xs) h) [
      | inl t ↦ (x, (0, omega arith, refl), t)
      | inr r ↦ (let found = any_from p xs r in (found.0, contains_more x xs found.0 found.1, found.2))
    ]

-- what was found is an element, and passes
pub find_from : {X : Type 0} (p : X → Bool) (xs : List X) (x : X) → find p xs ≡ Some x → Contains xs x × (p x ≡ true)
find_from p [] x h = absurd (cc h)
find_from p (y ∷ ys) x h =
    elim (cases_Bool (p y)) [
      | inl t ↦ (let there = rw t at h in let is : y ≡ x = cc there in ((0, omega arith, is), rw (sym is) t))
      | inr f ↦ (let r = find_from p ys x (rw f at h) in (contains_more y ys x r.0, r.1))
    ]

-- where nothing is found no element passes
pub find_none : {X : Type 0} (p : X → Bool) (xs : List X) (x : X) → find p xs ≡ None → Contains xs x → p x ≡ true → ⊥
find_none p [] x none h t = absurd (omega (arith, h.1))
find_none p (y ∷ ys) x none h t =
    elim (cases_Bool (p y)) [
      | inl u ↦ (let there = rw u at none in absurd (cc there))
      | inr f ↦ elim (cons_cases y ys x h) [
        | inl is ↦ absurd (cc (t, f, ap p is))
        | inr in' ↦ find_none p ys x (rw f at none) in' t
      ]
    ]
