-- Elements of lists.
pub use Rattle.lk_agreement_laws.proofs.Histories.{cons_cases, contains_more, only}
use Rattle.std.proofs.Common.{◌≡◌, ℕ, zero, suc, inl, inr, List, [], ◌∷◌, take, map, Contains, refl, ap, arith}

pub take_contains : {X : Type 0} (k : ℕ) (xs : List X) (x : X) → Contains (take k xs) x → Contains xs x
take_contains zero xs x c = absurd (omega (arith, c.1))
take_contains (suc k) [] x c = c
take_contains (suc k) (y ∷ xs) x c =
    elim (cons_cases y (take k xs) x c)
    [ inl e ↦ (0, omega arith, e) | inr d ↦ contains_more y xs x (take_contains k xs x d) ]

pub map_contains : {X Y : Type 0} (f : X → Y) (xs : List X) (y : Y) → Contains (map f xs) y
    → (x : X) × Contains xs x × (f x ≡ y)
map_contains f [] y c = absurd (omega (arith, c.1))
map_contains f (x ∷ xs) y c = elim (cons_cases (f x) (map f xs) y c) [
  | inl e ↦ (x, (0, omega arith, refl), e)
  | inr d ↦ let r = map_contains f xs y d in (r.0, contains_more x xs r.0 r.1, r.2)
]

pub map_has : {X Y : Type 0} (f : X → Y) (xs : List X) (x : X) → Contains xs x → Contains (map f xs) (f x)
map_has f [] x c = absurd (omega (arith, c.1))
map_has f (y ∷ xs) x c =
    elim (cons_cases y xs x c)
    [ inl e ↦ (0, omega arith, ap f e) | inr d ↦ contains_more (f y) (map f xs) (f x) (map_has f xs x d) ]
