-- A window whose sets are all the same: it names the members of one of them, and does not change as a position passes.
use Rattle.std.proofs.Common.{◌≡◌, ◌∙◌, ℕ, zero, suc, ◌+◌, ◌<◌, Bool, true, false, Option, List, [], ◌∷◌, ◌++◌, length}
use Rattle.std.proofs.Common.{drop, get_or, ap, sym, subst, inl, inr, arith}
use Rattle.std.proofs.lemmas.Bool.{cases_Bool}
use Rattle.lk_members.specs.Rosters.{Member, is_member}
use Rattle.lk_members.specs.Sets.{AreAlike, newest}
use Rattle.lk_members.specs.Ports.{is_named, IsNextAbove}
use Rattle.lk_members.specs.Windows.{RosterValue, moved_unchanged}

named_one : (node : ℕ) (x s : List Member) (ss : List (List Member))
    → ((k : ℕ) → k < length (s ∷ ss) → get_or (s ∷ ss) k [] ≡ x) → is_named node (s ∷ ss) ≡ is_member node x
named_one node x s [] each =
    let same : s ≡ x = each zero (omega arith) in
    elim (cases_Bool (is_member node x)) [
      | inl t ↦ (let here : is_member node s ≡ true = ap (is_member node) same ∙ t in rw here (sym t))
      | inr f ↦ (let here : is_member node s ≡ false = ap (is_member node) same ∙ f in rw here (sym f))
    ]
named_one node x s (t ∷ ts) each =
    let same : s ≡ x = each zero (omega arith) in
    let rest = named_one node x t ts (λ k lt. each (suc k) (omega (arith, lt))) in
    elim (cases_Bool (is_member node x)) [
      | inl t ↦ (let here : is_member node s ≡ true = ap (is_member node) same ∙ t in rw here (sym t))
      | inr f ↦ (let here : is_member node s ≡ false = ap (is_member node) same ∙ f in rw here rest)
    ]

pub named_alike : (node : ℕ) (sets : List (List Member)) → 0 < length sets → AreAlike sets
    → is_named node sets ≡ is_member node (newest sets)
named_alike node [] some alike = absurd (omega (arith, some))
named_alike node (s ∷ ss) some alike = named_one node (newest (s ∷ ss)) s ss alike

pub above_alike : (low : ℕ) (sets : List (List Member)) (next : Option ℕ) → 0 < length sets → AreAlike sets
    → IsNextAbove (λ k. is_member k (newest sets)) low next → IsNextAbove (λ k. is_named k sets) low next
above_alike low sets next some alike is =
    subst (λ (f : ℕ → Bool). IsNextAbove f low next) (λ i k. sym (named_alike k sets some alike) i) is

moved_one : (x s : List Member) (ss : List (List Member))
    → ((k : ℕ) → k < length (s ∷ ss) → get_or (s ∷ ss) k [] ≡ x) → ss ++ x ∷ [] ≡ s ∷ ss
moved_one x s [] each = ap (λ u. u ∷ []) (sym (each zero (omega arith)))
moved_one x s (t ∷ ts) each =
    let rest : ts ++ x ∷ [] ≡ t ∷ ts = moved_one x t ts (λ k lt. each (suc k) (omega (arith, lt))) in
    let same : t ≡ s = each (suc zero) (omega arith) ∙ sym (each zero (omega arith)) in
    ap (λ l. t ∷ l) rest ∙ ap (λ u. u ∷ (t ∷ ts)) same

moved_alike : (sets : List (List Member)) → 0 < length sets → AreAlike sets → drop 1 sets ++ newest sets ∷ [] ≡ sets
moved_alike [] some alike = absurd (omega (arith, some))
moved_alike (s ∷ ss) some alike = moved_one (newest (s ∷ ss)) s ss alike

pub passed_alike : (v : RosterValue) → 0 < length v.sets → AreAlike v.sets
    → record { executed = v.executed + 1; sets = v.sets; greatest = v.greatest; changed = v.changed }
    ≡ moved_unchanged v
passed_alike v some alike =
    (λ i. record {
      executed = v.executed + 1;
      sets = sym (moved_alike v.sets some alike) i;
      greatest = v.greatest;
      changed = v.changed;
    })
