-- Lists.
use Rattle.std.proofs.Common.{◌≡◌, ℕ, ◌<◌, ◌⊎◌, List, [], ◌∷◌, ◌++◌, length, set, Contains, refl, ap, sym, ◌∙◌, subst}
use Rattle.std.proofs.Common.{inl, inr, append_assoc}
use Rattle.std.proofs.lemmas.Bool.{cases_eq}
use Rattle.std.proofs.lemmas.List.{get_or-set_other, length-set}
use Rattle.std.proofs.lemmas.Grind.{get_or-set_at}
use Rattle.std.proofs.lemmas.List.Elements.{Contains-append_left}
use Rattle.lk_node_interface.specs.declared.note.Note.{Note}
use Rattle.lk_node.specs.Histories.{RequestValue}
use Rattle.lk_sim.specs.Traces.{asked_by, asked_in}
use Rattle.lk_sim_nodes.specs.SimNodes.{At}

pub at_set : {X : Type 0} (xs : List X) (i : ℕ) (y : X) (j : ℕ) (x : X) → At (set xs i y) j x
    → ((j ≡ i) × (y ≡ x)) ⊎ ((j ≡ i → ⊥) × At xs j x)
at_set xs i y j x at =
    let lt : j < length xs = subst (λ l. j < l) (length-set xs i y) at.0 in
    elim (cases_eq j i) [
      | inl e ↦ inl (e, sym (get_or-set_at xs i j y x e (subst (λ k. k < length xs) e lt)) ∙ at.1)
      | inr ne ↦ inr (ne, (lt, sym (get_or-set_other xs i j y x ne) ∙ at.1))
    ]

pub at_set_here : {X : Type 0} (xs : List X) (i : ℕ) (y : X) → i < length xs → At (set xs i y) i y
at_set_here xs i y lt = (subst (λ l. i < l) (sym (length-set xs i y)) lt, get_or-set_at xs i i y y refl lt)

pub at_set_other : {X : Type 0} (xs : List X) (i : ℕ) (y : X) (j : ℕ) (x : X) → (j ≡ i → ⊥)
    → At xs j x → At (set xs i y) j x
at_set_other xs i y j x ne at =
    (subst (λ l. j < l) (sym (length-set xs i y)) at.0, get_or-set_other xs i j y x ne ∙ at.1)

pub asked_in-append : (xs ys : List Note) → asked_in (xs ++ ys) ≡ asked_in xs ++ asked_in ys
asked_in-append [] ys = refl
asked_in-append (x ∷ xs) ys =
    ap (λ l. asked_by x ++ l) (asked_in-append xs ys) ∙ sym (append_assoc (asked_by x) (asked_in xs) (asked_in ys))

pub asked_among : (xs ys : List Note) (r : RequestValue) → Contains (asked_in xs) r → Contains (asked_in (xs ++ ys)) r
asked_among xs ys r c =
    subst (λ l. Contains l r) (sym (asked_in-append xs ys)) (Contains-append_left (asked_in xs) (asked_in ys) r c)

pub set_last : {X : Type 0} (xs : List X) (y z : X) → set (xs ++ y ∷ []) (length xs) z ≡ xs ++ z ∷ []
set_last [] y z = refl
set_last (x ∷ xs) y z = ap (λ l. x ∷ l) (set_last xs y z)
