-- Where a vote is put.
use Rattle.std.proofs.Common.{◌≡◌, ℕ, suc, ◌<◌, ◌≢◌, Bool, true, false, ltb, eqb, ◌⊎◌, inl, inr, List, [], ◌∷◌, ◌++◌}
use Rattle.std.proofs.Common.{length, get_or, refl, sym, ap, ◌∙◌, arith}
use Rattle.std.proofs.Math.ListN.{set}
use Rattle.std.specs.List.{insert}
use Rattle.std.proofs.lemmas.Bool.Decides.{nat_tests}
use Rattle.std.proofs.lemmas.Bool.{eq-eqb}
use Rattle.lk_types.specs.Ballots.{is_below}
use Rattle.lk_types.specs.declared.vote.Vote.{Vote}
use Rattle.lk_store_format.specs.VoteLists.{count_below, votes_with}

-- the two ways of a test
bool_cases : (b : Bool) → (b ≡ true) ⊎ (b ≡ false)
bool_cases true = inl refl
bool_cases false = inr refl

eqb-false : (a b : ℕ) → a ≢ b → eqb a b ≡ false
eqb-false a b ne = grind (arith, nat_tests)

module _ (v : Vote) where
  pub at_end : (vs new : List Vote) → count_below v.position vs ≡ length vs → new ≡ vs ++ v ∷ [] → new ≡ votes_with v vs
  at_end vs new e is = is ∙ ends vs e
    where
      ends : (vs : List Vote) → count_below v.position vs ≡ length vs → vs ++ v ∷ [] ≡ votes_with v vs
      ends [] e = refl
      ends (w ∷ ws) e = elim (bool_cases (ltb w.position v.position)) [
        | inl before ↦ let more : suc (count_below v.position ws) ≡ suc (length ws) = rw before at e in
            rw before (ap (λ (l : List Vote). w ∷ l) (ends ws (omega (arith, more))))
        | inr not_before ↦ let none : 0 ≡ suc (length ws) = rw not_before at e in absurd (omega (arith, none))
      ]

  pub at_other : (vs new : List Vote) (w : Vote) → count_below v.position vs < length vs
      → w ≡ get_or vs (count_below v.position vs) w → w.position ≢ v.position
      → new ≡ insert vs (count_below v.position vs) v → new ≡ votes_with v vs
  at_other vs new w short here ne is = is ∙ others vs short here
    where
      others : (vs : List Vote) → count_below v.position vs < length vs → w ≡ get_or vs (count_below v.position vs) w
          → insert vs (count_below v.position vs) v ≡ votes_with v vs
      others [] short here = absurd (omega arith)
      others (x ∷ xs) short here = elim (bool_cases (ltb x.position v.position)) [
        | inl before ↦
            let short' : suc (count_below v.position xs) < suc (length xs) = rw before at short in
            let here' : w ≡ get_or xs (count_below v.position xs) w = rw before at here in
            rw before (ap (λ (l : List Vote). x ∷ l) (others xs (omega (arith, short')) here'))
        | inr not_before ↦
            let is_x : w ≡ x = rw not_before at here in
            let differs : eqb x.position v.position ≡ false =
            eqb-false x.position v.position (λ same. ne (ap (λ (u : Vote). u.position) is_x ∙ same)) in
            rw (not_before, differs) refl
      ]

  pub at_below : (vs new : List Vote) (w : Vote) → count_below v.position vs < length vs
      → w ≡ get_or vs (count_below v.position vs) w → w.position ≡ v.position → is_below w.ballot v.ballot ≡ true
      → new ≡ set vs (count_below v.position vs) v → new ≡ votes_with v vs
  at_below vs new w short here same below is = is ∙ sets vs short here
    where
      sets : (vs : List Vote) → count_below v.position vs < length vs → w ≡ get_or vs (count_below v.position vs) w
          → set vs (count_below v.position vs) v ≡ votes_with v vs
      sets [] short here = absurd (omega arith)
      sets (x ∷ xs) short here = elim (bool_cases (ltb x.position v.position)) [
        | inl before ↦
            let short' : suc (count_below v.position xs) < suc (length xs) = rw before at short in
            let here' : w ≡ get_or xs (count_below v.position xs) w = rw before at here in
            rw before (ap (λ (l : List Vote). x ∷ l) (sets xs (omega (arith, short')) here'))
        | inr not_before ↦
            let is_x : w ≡ x = rw not_before at here in
            let too : eqb x.position v.position ≡ true =
            eq-eqb x.position v.position (sym (ap (λ (u : Vote). u.position) is_x) ∙ same) in
            let under : is_below x.ballot v.ballot ≡ true = ap (λ (u : Vote). is_below u.ballot v.ballot) (sym is_x)
            ∙ below in
            rw (not_before, too, under) refl
      ]

  pub at_above : (vs : List Vote) (w : Vote) → count_below v.position vs < length vs
      → w ≡ get_or vs (count_below v.position vs) w → w.position ≡ v.position
      → is_below w.ballot v.ballot ≡ false → vs ≡ votes_with v vs
  at_above [] w short here same above = absurd (omega arith)
  at_above (x ∷ xs) w short here same above = elim (bool_cases (ltb x.position v.position)) [
    | inl before ↦
        let short' : suc (count_below v.position xs) < suc (length xs) = rw before at short in
        let here' : w ≡ get_or xs (count_below v.position xs) w = rw before at here in
        rw before (ap (λ (l : List Vote). x ∷ l) (at_above xs w (omega (arith, short')) here' same above))
    | inr not_before ↦
        let is_x : w ≡ x = rw not_before at here in
        let too : eqb x.position v.position ≡ true =
        eq-eqb x.position v.position (sym (ap (λ (u : Vote). u.position) is_x) ∙ same) in
        let over : is_below x.ballot v.ballot ≡ false = ap (λ (u : Vote). is_below u.ballot v.ballot) (sym is_x)
        ∙ above in
        rw (not_before, too, over) refl
  ]
