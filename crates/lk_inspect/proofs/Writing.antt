-- The lines of the sets of a window, one after another.
use Rattle.std.proofs.Common.{◌≡◌, ◌<◌, ◌≤◌, ◌+◌, ℕ, suc, List, [], ◌∷◌, ◌++◌, Option, cond, length, get_or}
use Rattle.std.proofs.Common.{drop, sym, ap, subst, ◌∙◌, append_assoc, append-nil, drop-cons, arith}
use Rattle.std.proofs.lemmas.List.{drop_all}
use Rattle.std.specs.Io.KnownBytes.{Appends}
use Rattle.lk_types.specs.declared.member.Member.{Member}
use Rattle.lk_types.proofs.Appending.{appends_more}
use Rattle.lk_inspect.specs.Lines.{are_same, change_line, later_lines}

same : (n : ℕ) → suc n ≡ n + 1
same n = omega arith

-- what was written, with the lines of the sets that are left, is all
abbrev pub SoFar : Option (List ℕ) → Option (List ℕ) → List ℕ → ℕ → List Member → List (List Member) → Type 0
SoFar old new all position before sets =
    (written : List ℕ) × Appends old new written × (written ++ later_lines position before sets ≡ all)

pub sets_more : (a b c : Option (List ℕ)) (all : List ℕ) (position : ℕ) (before ms : List Member)
    (sets : List (List Member)) (i : ℕ) → i < length sets → ms ≡ get_or sets i ms
    → SoFar a b all position before (drop i sets)
    → Appends b c (cond (are_same ms before) [] (change_line position ms))
    → SoFar a c all (position + 1) ms (drop (i + 1) sets)
sets_more a b c all position before ms sets i within is so_far more =
    let text : List ℕ = cond (are_same ms before) [] (change_line position ms) in
    let next : drop i sets ≡ ms ∷ drop (i + 1) sets =
    drop-cons sets i ms within ∙ ap (λ (m : List Member). m ∷ drop (suc i) sets) (sym is)
    ∙ ap (λ (n : ℕ). ms ∷ drop n sets) (same i) in (
      so_far.0 ++ text,
      appends_more a b c so_far.0 text so_far.1 more,
      append_assoc so_far.0 text (later_lines (position + 1) ms (drop (i + 1) sets))
          ∙ ap (λ (l : List ℕ). so_far.0 ++ l)
          (sym (ap (λ (l : List (List Member)). later_lines position before l) next)) ∙ so_far.2,
    )

pub sets_done : (a b : Option (List ℕ)) (all : List ℕ) (position : ℕ) (before : List Member)
    (sets : List (List Member)) (i : ℕ) → length sets ≤ i
    → SoFar a b all position before (drop i sets) → Appends a b all
sets_done a b all position before sets i past so_far =
    subst (λ (l : List ℕ). Appends a b l)
    (sym (append-nil so_far.0)
    ∙ ap (λ (l : List (List Member)). so_far.0 ++ later_lines position before l) (sym (drop_all i sets past))
    ∙ so_far.2) so_far.1
