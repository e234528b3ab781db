-- What joins the datagrams of a world, by its place, and the place of a node among members.
use Rattle.std.proofs.Common.{◌≡◌, ◌∙◌, ◌==◌, inl, inr, ℕ, zero, suc, ◌+◌, ◌-◌, ◌<◌, ◌≤◌, ◌++◌, List, [], ◌∷◌, length}
use Rattle.std.proofs.Common.{Some, None, slice_get, Contains, Option, add-one, ap, arith, refl, subst, sym}
use Rattle.std.proofs.lemmas.Bool.{cases_order}
use Rattle.std.proofs.lemmas.Option.{slice_get-get_or, slice_get_within}
use Rattle.std.specs.List.{position}
use Rattle.lk_types.specs.declared.member.Member.{Member}
use Rattle.lk_agreement_laws.proofs.Histories.{contains_more}
use Rattle.lk_agreement_laws.specs.Datagrams.{Datagram}
use Rattle.lk_node_interface.specs.Recipients.{index_in}
use Rattle.lk_sim.specs.Refusals.{datagram_at}

pub same_some : {X : Type 0} (x y : X) → Some x ≡ Some y → x ≡ y
same_some x y e = cc e

pub at_end : {X : Type 0} (xs : List X) (x : X) (ys : List X) → slice_get (xs ++ x ∷ ys) (length xs) ≡ Some x
at_end [] x ys = refl
at_end (y ∷ xs) x ys = at_end xs x ys

pub none_at_end : {X : Type 0} (xs : List X) → slice_get (xs ++ []) (length xs) ≡ None
none_at_end [] = refl
none_at_end (x ∷ xs) = none_at_end xs

stays_at : {X : Type 0} (xs more : List X) (k : ℕ) (x : X) → slice_get xs k ≡ Some x
    → slice_get (xs ++ more) k ≡ Some x
stays_at [] more k x e = absurd (cc e)
stays_at (y ∷ xs) more zero x e = e
stays_at (y ∷ xs) more (suc k) x e = stays_at xs more k x e

pub datagram_stays : (sent more : List Datagram) (p : ℕ) (d : Datagram) → datagram_at sent p ≡ Some d
    → datagram_at (sent ++ more) p ≡ Some d
datagram_stays sent more zero d e = absurd (cc e)
datagram_stays sent more (suc k) d e = stays_at sent more k d e

pub at_place : (sent : List Datagram) (i : ℕ) (d : Datagram) → slice_get sent i ≡ Some d
    → datagram_at sent (i + 1) ≡ Some d
at_place sent i d at = subst (λ (k : ℕ). datagram_at sent k ≡ Some d) (sym (add-one i)) at

pub contains_at : {X : Type 0} (xs : List X) (i : ℕ) (x : X) → slice_get xs i ≡ Some x → Contains xs x
contains_at [] i x at = absurd (cc at)
contains_at (y ∷ ys) zero x at = (0, omega arith, same_some y x at)
contains_at (y ∷ ys) (suc i) x at = contains_more y ys x (contains_at ys i x at)

-- a place where a datagram stands is from 1 on
pub place_within : (sent : List Datagram) (p : ℕ) (d : Datagram) → datagram_at sent p ≡ Some d
    → (1 ≤ p) × (p - 1 < length sent)
place_within sent zero d e = absurd (cc e)
place_within sent (suc k) d e = (omega arith, (let lt = slice_get_within sent k d e in omega (arith, lt)))

-- and it is the one before that, counted from 0
pub at_before : (sent : List Datagram) (p : ℕ) → 1 ≤ p → datagram_at sent p ≡ slice_get sent (p - 1)
at_before sent zero one = absurd (omega (arith, one))
at_before sent (suc k) one =
    let same : suc k - 1 ≡ k = omega arith in ap (slice_get sent) (sym same)

-- one more is behind
pub one_more : {X : Type 0} (xs : List X) (i : ℕ) (x : X) (P : X → Type 0) → slice_get xs i ≡ Some x → (P x → ⊥)
    → ((k : ℕ) (y : X) → k < i → slice_get xs k ≡ Some y → P y → ⊥)
    → (k : ℕ) (y : X) → k < i + 1 → slice_get xs k ≡ Some y → P y → ⊥
one_more xs i x P at not before k y lt there p = elim (cases_order k i) [
  | inl same ↦ not (subst P (same_some y x (sym there ∙ ap (slice_get xs) same ∙ at)) p)
  | inr (inl less) ↦ before k y less there p
  | inr (inr above) ↦ absurd (omega (arith, lt, above))
]

-- so nothing of the list is left out
pub none_contained : {X : Type 0} (xs : List X) (i : ℕ) (P : X → Type 0) → length xs ≤ i
    → ((k : ℕ) (y : X) → k < i → slice_get xs k ≡ Some y → P y → ⊥) → (y : X) → Contains xs y → P y → ⊥
none_contained xs i P enough none y c p =
    none c.0 y (omega (arith, c.1, enough)) (slice_get-get_or xs c.0 y c.1 ∙ ap Some c.2) p

-- what is found in a copy of the list
pub found_in : (ds sent before old : List Datagram) (o : Option Datagram) → ds ≡ sent → before ≡ old
    → slice_get ds (length before) ≡ o → slice_get sent (length old) ≡ o
found_in ds sent before old o same as_before found =
    subst (λ (xs : List Datagram). slice_get xs (length old) ≡ o) same
    (subst (λ (xs : List Datagram). slice_get ds (length xs) ≡ o) as_before found)

-- the place of a node among the members of the next position
pub place_in : (sets : List (List Member)) (set : List Member) (n : ℕ) → slice_get sets 0 ≡ Some set
    → index_in sets n ≡ position (λ m. m.node == n) set
place_in [] set n at = absurd (cc at)
place_in (s ∷ sets) set n at =
    let is : s ≡ set = (let e : Some s ≡ Some set = at in cc e) in
    ap (λ (x : List Member). position (λ m. m.node == n) x) is
