-- Votes and decided commands that are kept in the order of their positions.
use Rattle.std.proofs.Common.{◌≡◌, ℕ, suc, ◌<◌, ◌≤◌, ◌≢◌, Bool, true, false, cond, ltb, eqb, ◌&&◌, ◌⊎◌, inl, inr, List}
use Rattle.std.proofs.Common.{[], ◌∷◌, ◌++◌, length, get_or, Option, Some, None, refl, sym, ap, subst, ◌∙◌, arith}
use Rattle.std.proofs.Math.ListN.{set}
use Rattle.std.specs.List.{insert}
use Rattle.std.proofs.lemmas.Bool.Decides.{nat_tests}
use Rattle.std.proofs.lemmas.Bool.{ltb-true, ltb-false, lt-ltb, eqb-true, eq-eqb}
use Rattle.lk_types.specs.declared.command.Command.{Command}
use Rattle.lk_types.specs.declared.vote.Vote.{Vote}
use Rattle.lk_types.specs.Votes.{are_votes_above}
use Rattle.lk_store_format.specs.Entries.{are_pairs_above}
use Rattle.lk_types.specs.Ballots.{is_below}
use Rattle.lk_store_format.specs.VoteLists.{count_below, votes_with}
use Rattle.lk_store_format.specs.Standings.{better, best_from, vote_at, decided_at, pairs_below, with_pair}

-- the two ways of a test
bool_cases : (b : Bool) → (b ≡ true) ⊎ (b ≡ false)
bool_cases true = inl refl
bool_cases false = inr refl

and_both : (a b : Bool) → (a && b) ≡ true → (a ≡ true) × (b ≡ true)
and_both true true e = (refl, refl)
and_both true _ e = absurd cc
and_both _ b e = absurd cc

both_and : (a b : Bool) → a ≡ true → b ≡ true → (a && b) ≡ true
both_and a b x y = rw (x, y) refl

eqb-false : (a b : ℕ) → a ≢ b → eqb a b ≡ false
eqb-false a b ne = grind (arith, nat_tests)

eqb-ne : (a b : ℕ) → eqb a b ≡ false → a ≢ b
eqb-ne a b e = grind (arith, nat_tests)

-- ---- votes

pub above_low : (low : ℕ) (v : Vote) (vs : List Vote) → are_votes_above low (v ∷ vs) ≡ true
    → (low < v.position) × (are_votes_above v.position vs ≡ true)
above_low low v vs e = let b = and_both (ltb low v.position) (are_votes_above v.position vs) e in
    (ltb-true low v.position b.0, b.1)

low_above : (low : ℕ) (v : Vote) (vs : List Vote) → low < v.position → are_votes_above v.position vs ≡ true
    → are_votes_above low (v ∷ vs) ≡ true
low_above low v vs less e = both_and (ltb low v.position) (are_votes_above v.position vs) (lt-ltb low v.position less) e

-- none stands at or below where they rise from
none_at : (i low : ℕ) (vs : List Vote) → are_votes_above low vs ≡ true → i ≤ low → vote_at i vs ≡ None
none_at i low [] e h = refl
none_at i low (v ∷ vs) e h =
    let b = above_low low v vs e in
    let other : eqb v.position i ≡ false = eqb-false v.position i (λ same. omega arith) in
    rw other (none_at i v.position vs b.1 (omega arith))

-- what a vote makes of the one at a position
abbrev pub vote_then : ℕ → Option Vote → Vote → Option Vote
vote_then i o v = cond (eqb v.position i) (better o v) o

pub vote_at-with : (i low : ℕ) (v : Vote) (vs : List Vote) → are_votes_above low vs ≡ true
    → vote_at i (votes_with v vs) ≡ vote_then i (vote_at i vs) v
vote_at-with i low v [] e = refl
vote_at-with i low v (w ∷ ws) e =
    let b = above_low low w ws e in
    elim (bool_cases (ltb w.position v.position)) [
      | inl less ↦
          let is_less = ltb-true w.position v.position less in
          elim (bool_cases (eqb w.position i)) [
            | inl here ↦
                let at : w.position ≡ i = eqb-true w.position i here in
                let other : eqb v.position i ≡ false = eqb-false v.position i (λ same. omega arith) in
                rw (less, here, other) refl
            | inr apart ↦ rw (less, apart) (vote_at-with i w.position v ws b.1)
          ]
      | inr not_less ↦
          let is_not_less = ltb-false w.position v.position not_less in
          elim (bool_cases (eqb w.position v.position)) [
            | inl same ↦
                let at : w.position ≡ v.position = eqb-true w.position v.position same in
                with_same i v w ws not_less same at
            | inr differs ↦
                let ne = eqb-ne w.position v.position differs in
                elim (bool_cases (eqb v.position i)) [
                  | inl here ↦
                      let at : v.position ≡ i = eqb-true v.position i here in
                      let none : vote_at i (w ∷ ws) ≡ None =
                      none_at i v.position (w ∷ ws) (low_above v.position w ws (omega arith) b.1) (omega arith) in
                      rw (not_less, differs, here, none) refl
                  | inr apart ↦ rw (not_less, differs, apart) refl
                ]
          ]
    ]
  where
    with_same : (i : ℕ) (v w : Vote) (ws : List Vote) → ltb w.position v.position ≡ false
        → eqb w.position v.position ≡ true → w.position ≡ v.position
        → vote_at i (votes_with v (w ∷ ws)) ≡ vote_then i (vote_at i (w ∷ ws)) v
    with_same i v w ws not_less same at =
        elim (bool_cases (is_below w.ballot v.ballot)) [
          | inl below ↦ elim (bool_cases (eqb v.position i)) [
            | inl here ↦ let too : eqb w.position i ≡ true = rw at here in
                rw (not_less, same, below, here, too, below) refl
            | inr apart ↦ let too : eqb w.position i ≡ false = rw at apart in
                rw (not_less, same, below, apart, too) refl
          ]
          | inr above ↦ elim (bool_cases (eqb v.position i)) [
            | inl here ↦ let too : eqb w.position i ≡ true = rw at here in
                rw (not_less, same, above, too, here, above) refl
            | inr apart ↦ let too : eqb w.position i ≡ false = rw at apart in
                rw (not_less, same, above, too, apart) refl
          ]
        ]

pub rising-with : (low : ℕ) (v : Vote) (vs : List Vote) → are_votes_above low vs ≡ true → low < v.position
    → are_votes_above low (votes_with v vs) ≡ true
rising-with low v [] e less = low_above low v [] less refl
rising-with low v (w ∷ ws) e less =
    let b = above_low low w ws e in
    elim (bool_cases (ltb w.position v.position)) [
      | inl before ↦ rw before
          (low_above low w (votes_with v ws) b.0
          (rising-with w.position v ws b.1 (ltb-true w.position v.position before)))
      | inr not_before ↦ elim (bool_cases (eqb w.position v.position)) [
        | inl same ↦
            let at : w.position ≡ v.position = eqb-true w.position v.position same in
            elim (bool_cases (is_below w.ballot v.ballot)) [
              | inl below ↦ rw (not_before, same, below)
                  (low_above low v ws less (subst (λ (p : ℕ). are_votes_above p ws ≡ true) at b.1))
              | inr above ↦ rw (not_before, same, above) (low_above low w ws b.0 b.1)
            ]
        | inr differs ↦
            let ne = eqb-ne w.position v.position differs in
            let le = ltb-false w.position v.position not_before in
            rw (not_before, differs) (low_above low v (w ∷ ws) less (low_above v.position w ws (omega arith) b.1))
      ]
    ]

-- the best of votes with one more
pub best-push : (i : ℕ) (o : Option Vote) (vs : List Vote) (v : Vote)
    → best_from i o (vs ++ v ∷ []) ≡ vote_then i (best_from i o vs) v
best-push i o [] v = refl
best-push i o (w ∷ vs) v = best-push i (vote_then i o w) vs v

best-none : (i low : ℕ) (o : Option Vote) (vs : List Vote) → are_votes_above low vs ≡ true
    → i ≤ low → best_from i o vs ≡ o
best-none i low o [] e h = refl
best-none i low o (v ∷ vs) e h =
    let b = above_low low v vs e in
    let other : eqb v.position i ≡ false = eqb-false v.position i (λ same. omega arith) in
    rw other (best-none i v.position o vs b.1 (omega arith))

-- where positions rise there is one vote at most
pub best-rising : (i low : ℕ) (vs : List Vote) → are_votes_above low vs ≡ true → vote_at i vs ≡ best_from i None vs
best-rising i low [] e = refl
best-rising i low (v ∷ vs) e =
    let b = above_low low v vs e in
    elim (bool_cases (eqb v.position i)) [
      | inl here ↦
          let at : v.position ≡ i = eqb-true v.position i here in
          rw here (sym (best-none i v.position (Some v) vs b.1 (omega arith)))
      | inr apart ↦ rw apart (best-rising i v.position vs b.1)
    ]

-- ---- decided commands

pub pairs_low : (low : ℕ) (p : ℕ × Command) (ps : List (ℕ × Command)) → are_pairs_above low (p ∷ ps) ≡ true
    → (low < p.0) × (are_pairs_above p.0 ps ≡ true)
pairs_low low p ps e = let b = and_both (ltb low p.0) (are_pairs_above p.0 ps) e in (ltb-true low p.0 b.0, b.1)

low_pairs : (low : ℕ) (p : ℕ × Command) (ps : List (ℕ × Command)) → low < p.0 → are_pairs_above p.0 ps ≡ true
    → are_pairs_above low (p ∷ ps) ≡ true
low_pairs low p ps less e = both_and (ltb low p.0) (are_pairs_above p.0 ps) (lt-ltb low p.0 less) e

none_decided : (i low : ℕ) (ps : List (ℕ × Command)) → are_pairs_above low ps ≡ true → i ≤ low → decided_at i ps ≡ None
none_decided i low [] e h = refl
none_decided i low (p ∷ ps) e h =
    let b = pairs_low low p ps e in
    let other : eqb p.0 i ≡ false = eqb-false p.0 i (λ same. omega arith) in
    rw other (none_decided i p.0 ps b.1 (omega arith))

-- what a pair makes of the command of a position
abbrev pub decided_then : ℕ → Option Command → ℕ × Command → Option Command
decided_then i (Some c) p = Some c
decided_then i None p = cond (eqb p.0 i) (Some p.1) None

pub decided-push : (i : ℕ) (ps : List (ℕ × Command)) (p : ℕ × Command)
    → decided_at i (ps ++ p ∷ []) ≡ decided_then i (decided_at i ps) p
decided-push i [] p = refl
decided-push i (q ∷ ps) p = elim (bool_cases (eqb q.0 i)) [
  | inl here ↦ rw here refl
  | inr apart ↦ rw apart (decided-push i ps p)
]

then_apart : (i : ℕ) (o : Option Command) (p : ℕ × Command) → eqb p.0 i ≡ false → decided_then i o p ≡ o
then_apart i (Some c) p e = refl
then_apart i None p e = rw e refl

pub decided_at-with : (i low : ℕ) (p : ℕ × Command) (ps : List (ℕ × Command)) → are_pairs_above low ps ≡ true
    → decided_at i (with_pair p ps) ≡ decided_then i (decided_at i ps) p
decided_at-with i low p [] e = refl
decided_at-with i low p (q ∷ qs) e =
    let b = pairs_low low q qs e in
    elim (bool_cases (ltb q.0 p.0)) [
      | inl less ↦ elim (bool_cases (eqb q.0 i)) [
        | inl here ↦ rw (less, here) refl
        | inr apart ↦ rw (less, apart) (decided_at-with i q.0 p qs b.1)
      ]
      | inr not_less ↦ elim (bool_cases (eqb q.0 p.0)) [
        | inl same ↦
            let at : q.0 ≡ p.0 = eqb-true q.0 p.0 same in
            elim (bool_cases (eqb q.0 i)) [
              | inl here ↦ rw (not_less, same, here) refl
              | inr apart ↦
                  let too : eqb p.0 i ≡ false = rw (← at) apart in
                  rw (not_less, same, apart) (sym (then_apart i (decided_at i qs) p too))
            ]
        | inr differs ↦
            let ne = eqb-ne q.0 p.0 differs in
            let le = ltb-false q.0 p.0 not_less in
            elim (bool_cases (eqb p.0 i)) [
              | inl here ↦
                  let at : p.0 ≡ i = eqb-true p.0 i here in
                  let none : decided_at i (q ∷ qs) ≡ None =
                  none_decided i p.0 (q ∷ qs) (low_pairs p.0 q qs (omega arith) b.1) (omega arith) in
                  rw (not_less, differs, none, here) refl
              | inr apart ↦ rw (not_less, differs, apart) (sym (then_apart i (decided_at i (q ∷ qs)) p apart))
            ]
      ]
    ]

pub pairs_rise-with : (low : ℕ) (p : ℕ × Command) (ps : List (ℕ × Command)) → are_pairs_above low ps ≡ true → low < p.0
    → are_pairs_above low (with_pair p ps) ≡ true
pairs_rise-with low p [] e less = low_pairs low p [] less refl
pairs_rise-with low p (q ∷ qs) e less =
    let b = pairs_low low q qs e in
    elim (bool_cases (ltb q.0 p.0)) [
      | inl before ↦
          rw before (low_pairs low q (with_pair p qs) b.0 (pairs_rise-with q.0 p qs b.1 (ltb-true q.0 p.0 before)))
      | inr not_before ↦ elim (bool_cases (eqb q.0 p.0)) [
        | inl same ↦ rw (not_before, same) (low_pairs low q qs b.0 b.1)
        | inr differs ↦
            let ne = eqb-ne q.0 p.0 differs in
            let le = ltb-false q.0 p.0 not_before in
            rw (not_before, differs) (low_pairs low p (q ∷ qs) less (low_pairs p.0 q qs (omega arith) b.1))
      ]
    ]

-- ---- where a pair is put

module _ (p : ℕ × Command) where
  pub pair_at_end : (ps new : List (ℕ × Command)) → pairs_below p.0 ps ≡ length ps
      → new ≡ ps ++ p ∷ [] → new ≡ with_pair p ps
  pair_at_end ps new e is = is ∙ ends ps e
    where
      ends : (ps : List (ℕ × Command)) → pairs_below p.0 ps ≡ length ps → ps ++ p ∷ [] ≡ with_pair p ps
      ends [] e = refl
      ends (q ∷ qs) e = elim (bool_cases (ltb q.0 p.0)) [
        | inl before ↦ let more : suc (pairs_below p.0 qs) ≡ suc (length qs) = rw before at e in
            rw before (ap (λ (l : List (ℕ × Command)). q ∷ l) (ends qs (omega (arith, more))))
        | inr not_before ↦ let none : 0 ≡ suc (length qs) = rw not_before at e in absurd (omega (arith, none))
      ]

  pub pair_at_other : (ps new : List (ℕ × Command)) (w : ℕ × Command) → pairs_below p.0 ps < length ps
      → w ≡ get_or ps (pairs_below p.0 ps) w → w.0 ≢ p.0 → new ≡ insert ps (pairs_below p.0 ps) p → new ≡ with_pair p ps
  pair_at_other ps new w short here ne is = is ∙ others ps short here
    where
      others : (ps : List (ℕ × Command)) → pairs_below p.0 ps < length ps → w ≡ get_or ps (pairs_below p.0 ps) w
          → insert ps (pairs_below p.0 ps) p ≡ with_pair p ps
      others [] short here = absurd (omega arith)
      others (x ∷ xs) short here = elim (bool_cases (ltb x.0 p.0)) [
        | inl before ↦
            let short' : suc (pairs_below p.0 xs) < suc (length xs) = rw before at short in
            let here' : w ≡ get_or xs (pairs_below p.0 xs) w = rw before at here in
            rw before (ap (λ (l : List (ℕ × Command)). x ∷ l) (others xs (omega (arith, short')) here'))
        | inr not_before ↦
            let is_x : w ≡ x = rw not_before at here in
            let differs : eqb x.0 p.0 ≡ false =
            eqb-false x.0 p.0 (λ same. ne (ap (λ (u : ℕ × Command). u.0) is_x ∙ same)) in
            rw (not_before, differs) refl
      ]

  pub pair_at_same : (ps : List (ℕ × Command)) (w : ℕ × Command) → pairs_below p.0 ps < length ps
      → w ≡ get_or ps (pairs_below p.0 ps) w → w.0 ≡ p.0 → ps ≡ with_pair p ps
  pair_at_same [] w short here same = absurd (omega arith)
  pair_at_same (x ∷ xs) w short here same = elim (bool_cases (ltb x.0 p.0)) [
    | inl before ↦
        let short' : suc (pairs_below p.0 xs) < suc (length xs) = rw before at short in
        let here' : w ≡ get_or xs (pairs_below p.0 xs) w = rw before at here in
        rw before (ap (λ (l : List (ℕ × Command)). x ∷ l) (pair_at_same xs w (omega (arith, short')) here' same))
    | inr not_before ↦
        let is_x : w ≡ x = rw not_before at here in
        let too : eqb x.0 p.0 ≡ true = eq-eqb x.0 p.0 (sym (ap (λ (u : ℕ × Command). u.0) is_x) ∙ same) in
        rw (not_before, too) refl
  ]
