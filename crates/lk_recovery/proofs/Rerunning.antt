-- What a learner comes to that learns of pairs one after another, and runs what it can.
use Rattle.std.proofs.Common.{◌≡◌, ℕ, zero, suc, ◌+◌, ◌*◌, ◌<◌, ◌≤◌, ◌⊎◌, inl, inr, true, false, eqb, nat_lt, List, []}
use Rattle.std.proofs.Common.{◌∷◌, ◌++◌, length, drop, get_or, None, Contains, refl, sym, ap, ◌∙◌, subst, arith}
use Rattle.std.proofs.Common.{append_assoc, append-nil}
use Rattle.std.proofs.lemmas.Bool.{cases_Bool, and_parts, ltb-true, lt-ltb, eq-eqb, eqb-true, eqb-false}
use Rattle.std.proofs.lemmas.List.Elements.{Contains-append_cases}
use Rattle.lk_state.specs.Meanings.{Meaning}
use Rattle.lk_state.specs.Packed.{packed}
use Rattle.lk_state.specs.States.{WholeValue}
use Rattle.lk_state.specs.Runs.{ran}
use Rattle.lk_learner.specs.Learners.{Command, Pair, LearnerValue, IsLearner, executed, alpha, begun, IsNext, IsWanted}
use Rattle.lk_learner.specs.Learners.{keeping, advanced}
use Rattle.lk_learner.specs.Pairs.{are_pairs_above, with_pair, without}
use Rattle.lk_learner.proofs.Learnerships.{rising_all, with_has, with_only, ran_moves}
use Rattle.lk_recovery.specs.Revivals.{run_from, all_ran, notes_of, relearned, reached}
use Rattle.lk_node_interface.specs.declared.note.Note.{Note}
use Rattle.lk_node_interface.specs.declared.note.Note.TheVariants.{Ran}
use Rattle.lk_node.proofs.Nodes.{cons_cases, contains_more}

-- ---- one pair

-- the pair is the next one once it is kept
pub next_kept : (p : Pair) (l : LearnerValue) → p.0 ≡ executed l + 1 → IsNext (keeping p l) p.1
next_kept p l is = subst (λ (i : ℕ). Contains (with_pair p l.pairs) (i, p.1)) is (with_has p l.pairs)

-- where it is not, none is
pub none_next : (p : Pair) (l : LearnerValue) → ((v : Command) → IsNext l v → ⊥) → (p.0 ≡ executed l + 1 → ⊥)
    → (v : Command) → IsNext (keeping p l) v → ⊥
none_next p l quiet other v h =
    elim (with_only p l.pairs (executed l + 1, v) h)
    [ inl is ↦ other (ap (λ (q : Pair). q.0) is) | inr old ↦ quiet v old ]

-- ---- pairs that rise

rising_parts : (low : ℕ) (p : Pair) (ps : List Pair) → are_pairs_above low (p ∷ ps) ≡ true
    → (low < p.0) × (are_pairs_above p.0 ps ≡ true)
rising_parts low p ps e = let b = and_parts (nat_lt low p.0) (are_pairs_above p.0 ps) e in (ltb-true low p.0 b.0, b.1)

among_behind : (qs ps : List Pair) (p : Pair) → Contains (qs ++ p ∷ ps) p
among_behind [] ps p = (0, omega arith, refl)
among_behind (q ∷ qs) ps p = contains_more q (qs ++ p ∷ ps) p (among_behind qs ps p)

-- those after it are above it
rising_behind : (low : ℕ) (qs ps : List Pair) (p : Pair) → are_pairs_above low (qs ++ p ∷ ps) ≡ true
    → are_pairs_above p.0 ps ≡ true
rising_behind low [] ps p e = (rising_parts low p ps e).1
rising_behind low (q ∷ qs) ps p e = rising_behind q.0 qs ps p (rising_parts low q (qs ++ p ∷ ps) e).1

-- the pair after the others is put after them
with_last : (low : ℕ) (qs ps : List Pair) (p : Pair) → are_pairs_above low (qs ++ p ∷ ps) ≡ true
    → with_pair p qs ≡ qs ++ p ∷ []
with_last low [] ps p e = refl
with_last low (q ∷ qs) ps p e =
    let b = rising_parts low q (qs ++ p ∷ ps) e in
    let less : nat_lt q.0 p.0 ≡ true = lt-ltb q.0 p.0 (rising_all q.0 (qs ++ p ∷ ps) b.1 p (among_behind qs ps p)) in
    rw less (ap (λ (l : List Pair). q ∷ l) (with_last q.0 qs ps p b.1))

-- none stands in front of the next one
none_before : (e : ℕ) (qs ps : List Pair) (p : Pair) → are_pairs_above e (qs ++ p ∷ ps) ≡ true → p.0 ≡ e + 1 → qs ≡ []
none_before e [] ps p rise is = refl
none_before e (q ∷ qs) ps p rise is =
    let b = rising_parts e q (qs ++ p ∷ ps) rise in
    let less = rising_all q.0 (qs ++ p ∷ ps) b.1 p (among_behind qs ps p) in
    absurd (omega (arith, b.0, less, is))

-- after a gap nothing is run
gap_stops : (e : ℕ) (ps : List Pair) → ((v : Command) → Contains ps (e + 1, v) → ⊥) → run_from e ps ≡ []
gap_stops e [] none = refl
gap_stops e (p ∷ ps) none = elim (cases_Bool (eqb p.0 (e + 1))) [
  | inl next ↦ absurd (none p.1 (0, omega arith, ap (λ (i : ℕ). (i, p.1)) (eqb-true p.0 (e + 1) next)))
  | inr other ↦ rw other refl
]

-- the next one is run
next_runs : (e : ℕ) (p : Pair) (ps : List Pair) → p.0 ≡ e + 1 → run_from e (p ∷ ps) ≡ p.1 ∷ run_from (e + 1) ps
next_runs e p ps is = let same : eqb p.0 (e + 1) ≡ true = eq-eqb p.0 (e + 1) is in rw same refl

-- one pair after another
pub drop_next : (ps : List Pair) (k : ℕ) (p : Pair) → k < length ps → p ≡ get_or ps k p
    → drop k ps ≡ p ∷ drop (k + 1) ps
drop_next [] k p lt is = absurd (omega (arith, lt))
drop_next (q ∷ qs) zero p lt is = ap (λ (x : Pair). x ∷ qs) (sym is)
drop_next (q ∷ qs) (suc k) p lt is = drop_next qs k p (omega (arith, lt)) is ∙ ap (λ (l : List Pair). p ∷ l) (behind k)
  where
    behind : (k : ℕ) → drop (k + 1) qs ≡ drop (suc k + 1) (q ∷ qs)
    behind k = let a : k + 1 ≡ suc k = omega arith in let b : suc k + 1 ≡ suc (suc k) = omega arith in rw (a, b) refl

-- ---- what is still to come

-- With all these pairs kept or still to come, the learner will come to what the state comes to with the pairs.
pub record Comes (m : Meaning) (node : ℕ) (w : WholeValue) (pairs : List Pair) (l : LearnerValue) (notes : List Note)
    (all : List Pair) : Type 0 where
  pub rising : are_pairs_above (executed l) all ≡ true
  pub quiet : (v : Command) → IsNext l v → ⊥
  pub snapshot : l.snapshot_position ≡ w.roster.executed
  pub text : l.snapshot ≡ packed w
  pub gathered : l.gathered ≡ None
  pub sets : length l.whole.roster.sets ≡ length w.roster.sets
  pub state : all_ran m (run_from (executed l) all) l.whole ≡ all_ran m (run_from w.roster.executed pairs) w
  pub retained : l.retained ++ run_from (executed l) all ≡ run_from w.roster.executed pairs
  pub left : drop (length (run_from (executed l) all)) all ≡ drop (length (run_from w.roster.executed pairs)) pairs
  pub noted : notes ++ notes_of node (executed l) (run_from (executed l) all)
      ≡ notes_of node w.roster.executed (run_from w.roster.executed pairs)
  pub reaches : executed l + length (run_from (executed l) all) ≡ reached w.roster.executed pairs
  pub passed : (p : Pair) → Contains pairs p → (p.0 ≤ executed l) ⊎ Contains all p

module _ (m : Meaning) (node : ℕ) (w : WholeValue) (pairs : List Pair) where
  pub comes_first : are_pairs_above w.roster.executed pairs ≡ true → Comes m node w pairs (begun w) [] pairs
  comes_first rising = record {
    rising = rising;
    quiet = λ v h. omega (arith, h.1);
    snapshot = refl;
    text = refl;
    gathered = refl;
    sets = refl;
    state = refl;
    retained = refl;
    left = refl;
    noted = refl;
    reaches = refl;
    passed = λ p h. inr h;
  }

  -- a pair that is not the next one is kept
  pub comes_kept : (l : LearnerValue) (notes : List Note) (p : Pair) (rest : List Pair)
      → Comes m node w pairs l notes (l.pairs ++ p ∷ rest) → (p.0 ≡ executed l + 1 → ⊥)
      → Comes m node w pairs (keeping p l) notes ((keeping p l).pairs ++ rest)
  comes_kept l notes p rest c other =
      let same : l.pairs ++ p ∷ rest ≡ with_pair p l.pairs ++ rest =
      sym (ap (λ (qs : List Pair). qs ++ rest) (with_last (executed l) l.pairs rest p c.rising)
      ∙ append_assoc l.pairs (p ∷ []) rest) in
      subst (Comes m node w pairs (keeping p l) notes) same (record {
        rising = c.rising;
        quiet = none_next p l c.quiet other;
        snapshot = c.snapshot;
        text = c.text;
        gathered = c.gathered;
        sets = c.sets;
        state = c.state;
        retained = c.retained;
        left = c.left;
        noted = c.noted;
        reaches = c.reaches;
        passed = c.passed;
      })

  -- the next one is run, and nothing else was kept
  module _ (l : LearnerValue) (notes : List Note) (p : Pair) (rest : List Pair) (fits : IsLearner l)
      (c : Comes m node w pairs l notes (l.pairs ++ p ∷ rest)) (is : p.0 ≡ executed l + 1) where
    abbrev e : ℕ
    e = executed l

    none : l.pairs ≡ []
    none = none_before e l.pairs rest p c.rising is

    begins : l.pairs ++ p ∷ rest ≡ p ∷ rest
    begins = ap (λ (qs : List Pair). qs ++ p ∷ rest) none

    moves : (executed (advanced m p.1 (keeping p l)) ≡ e + 1)
        × (length (ran m p.1 l.whole).roster.sets ≡ length l.whole.roster.sets)
    moves = ran_moves m p.1 l.whole fits.window.0

    empties : (advanced m p.1 (keeping p l)).pairs ≡ []
    empties =
        let same : eqb p.0 (e + 1) ≡ true = eq-eqb p.0 (e + 1) is in
        let gone : without (e + 1) (p ∷ []) ≡ [] = rw same refl in
        ap (λ (qs : List Pair). without (e + 1) (with_pair p qs)) none ∙ gone

    runs : run_from e (l.pairs ++ p ∷ rest) ≡ p.1 ∷ run_from (e + 1) rest
    runs = ap (run_from e) begins ∙ next_runs e p rest is

    pub comes_run : Comes m node w pairs (advanced m p.1 (keeping p l)) (notes ++ Ran node p.0 p.1 ∷ [])
        ((advanced m p.1 (keeping p l)).pairs ++ rest)
    comes_run =
        let vs : List Command = run_from (e + 1) rest in
        let rise = rising_parts e p rest (ap (are_pairs_above e) (sym begins) ∙ c.rising) in
        subst (Comes m node w pairs (advanced m p.1 (keeping p l)) (notes ++ Ran node p.0 p.1 ∷ []))
        (sym (ap (λ (qs : List Pair). qs ++ rest) empties)) (record {
          rising = rw moves.0 (subst (λ (i : ℕ). are_pairs_above i rest ≡ true) is rise.1);
          quiet = λ v h. let k = subst
              (λ (qs : List Pair). Contains qs (executed (advanced m p.1 (keeping p l)) + 1, v)) empties h in
              omega (arith, k.1);
          snapshot = c.snapshot;
          text = c.text;
          gathered = c.gathered;
          sets = moves.1 ∙ c.sets;
          state = rw moves.0 (ap (λ (us : List Command). all_ran m us l.whole) (sym runs) ∙ c.state);
          retained = rw moves.0 (append_assoc l.retained (p.1 ∷ []) vs
              ∙ ap (λ (us : List Command). l.retained ++ us) (sym runs) ∙ c.retained);
          left = rw moves.0 (sym (ap (λ (us : List Command). drop (length us) (l.pairs ++ p ∷ rest)) runs
              ∙ ap (λ (qs : List Pair). drop (suc (length vs)) qs) begins) ∙ c.left);
          noted = rw moves.0 (append_assoc notes (Ran node p.0 p.1 ∷ []) (notes_of node (e + 1) vs)
              ∙ ap (λ (i : ℕ). notes ++ Ran node i p.1 ∷ notes_of node (e + 1) vs) is
              ∙ ap (λ (us : List Command). notes ++ notes_of node e us) (sym runs) ∙ c.noted);
          reaches = let n : length (run_from e (l.pairs ++ p ∷ rest)) ≡ suc (length vs) = ap length runs in
              rw moves.0 (omega (arith, n, c.reaches));
          passed = λ q h. elim (c.passed q h) [
            | inl was ↦ inl (omega (arith, was, moves.0))
            | inr among ↦ elim (cons_cases p rest q (subst (λ (qs : List Pair). Contains qs q) begins among)) [
              | inl same ↦ inl (subst (λ (x : Pair). x.0 ≤ executed (advanced m p.1 (keeping p l))) same
                  (omega (arith, is, moves.0)))
              | inr later ↦ inr later
            ]
          ];
        })

  -- ---- at the end, and at a pair that is too far

  module _ (l : LearnerValue) (notes : List Note) where
    stops : (all : List Pair) → Comes m node w pairs l notes (l.pairs ++ [])
        → run_from (executed l) (l.pairs ++ []) ≡ []
    stops all c = ap (run_from (executed l)) (append-nil l.pairs) ∙ gap_stops (executed l) l.pairs c.quiet

    module _ (c : Comes m node w pairs l notes (l.pairs ++ [])) where
      pub comes_reached : executed l ≡ reached w.roster.executed pairs
      comes_reached = let n = ap length (stops [] c) in omega (arith, n, c.reaches)

      pub comes_noted : notes ≡ notes_of node w.roster.executed (run_from w.roster.executed pairs)
      comes_noted = sym (ap (λ (us : List Command). notes ++ notes_of node (executed l) us) (stops [] c)
          ∙ append-nil notes) ∙ c.noted

      pub comes_to : l ≡ relearned m w pairs
      comes_to =
          let state : l.whole ≡ all_ran m (run_from w.roster.executed pairs) w =
          sym (ap (λ (us : List Command). all_ran m us l.whole) (stops [] c)) ∙ c.state in
          let retained : l.retained ≡ run_from w.roster.executed pairs =
          sym (ap (λ (us : List Command). l.retained ++ us) (stops [] c) ∙ append-nil l.retained) ∙ c.retained in
          let left : l.pairs ≡ drop (length (run_from w.roster.executed pairs)) pairs =
          sym (ap (λ (us : List Command). drop (length us) (l.pairs ++ [])) (stops [] c) ∙ append-nil l.pairs)
          ∙ c.left in
          λ i. record {
            whole = state i;
            snapshot_position = c.snapshot i;
            snapshot = c.text i;
            retained = retained i;
            pairs = left i;
            gathered = c.gathered i;
          }

      pub comes_near : IsLearner l → (p : Pair) → Contains pairs p
          → p.0 ≤ reached w.roster.executed pairs + 2 * length w.roster.sets
      comes_near fits p h = elim (c.passed p h) [
        | inl was ↦ omega (arith, was, comes_reached)
        | inr among ↦ let near =
            fits.kept.near p (subst (λ (qs : List Pair). Contains qs p) (append-nil l.pairs) among) in
            omega (arith, near, comes_reached, c.sets)
      ]

    -- a pair that is not wanted lies too far
    pub comes_far : IsLearner l → (p : Pair) (rest : List Pair)
        → Comes m node w pairs l notes (l.pairs ++ p ∷ rest) → (IsWanted l p.0 → ⊥)
        → p.0 ≤ reached w.roster.executed pairs + 2 * length w.roster.sets → ⊥
    comes_far fits p rest c unwanted near =
        let above = rising_all (executed l) (l.pairs ++ p ∷ rest) c.rising p (among_behind l.pairs rest p) in
        unwanted (record { above = above; near = within above; new = new (executed l) l.pairs c.rising })
      where
        new : (low : ℕ) (qs : List Pair) → are_pairs_above low (qs ++ p ∷ rest) ≡ true → (v : Command)
            → Contains qs (p.0, v) → ⊥
        new low [] rise v h = omega (arith, h.1)
        new low (q ∷ qs) rise v h =
            let b = rising_parts low q (qs ++ p ∷ rest) rise in
            elim (cons_cases q qs (p.0, v) h) [
              | inl same ↦ (let less = rising_all q.0 (qs ++ p ∷ rest) b.1 p (among_behind qs rest p) in
                  let is : q.0 ≡ p.0 = ap (λ (x : Pair). x.0) same in omega (arith, less, is))
              | inr later ↦ new q.0 qs b.1 v later
            ]

        -- after a gap nothing more is executed
        within : executed l < p.0 → p.0 ≤ executed l + 2 * alpha l
        within above = by_place (cases_Bool (eqb p.0 (executed l + 1)))
          where
            by_place : (eqb p.0 (executed l + 1) ≡ true) ⊎ (eqb p.0 (executed l + 1) ≡ false)
                → p.0 ≤ executed l + 2 * alpha l
            by_place (inl next) = let is = eqb-true p.0 (executed l + 1) next in
                let some = fits.window.0 in omega (arith, is, some)
            by_place (inr other) =
                let behind = rising_behind (executed l) l.pairs rest p c.rising in
                let far : (v : Command) → Contains (l.pairs ++ p ∷ rest) (executed l + 1, v) → ⊥ =
                λ v h. elim (Contains-append_cases l.pairs (p ∷ rest) (executed l + 1, v) h) [
                  | inl kept ↦ c.quiet v kept
                  | inr more ↦ elim (cons_cases p rest (executed l + 1, v) more) [
                    | inl same ↦ eqb-false p.0 (executed l + 1) other (ap (λ (x : Pair). x.0) same)
                    | inr later ↦
                        (let k = rising_all p.0 rest behind (executed l + 1, v) later in omega (arith, k, above))
                  ]
                ] in
                let none : run_from (executed l) (l.pairs ++ p ∷ rest) ≡ [] =
                gap_stops (executed l) (l.pairs ++ p ∷ rest) far in
                let n = ap length none in omega (arith, near, n, c.reaches, c.sets)
