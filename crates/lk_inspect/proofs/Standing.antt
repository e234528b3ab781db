-- What a state comes to that runs more of the list, and what it tells.
use Rattle.std.proofs.Common.{◌≡◌, ◌∙◌, ◌+◌, ◌≤◌, ◌++◌, ◌∷◌, [], List, ℕ, inl, inr, true, eqb, ap, sym, refl}
use Rattle.std.proofs.Common.{append_assoc, append-nil, length}
use Rattle.std.proofs.lemmas.Bool.{cases_Bool, eq-eqb, eqb-true}
use Rattle.std.specs.List.{AllByRecursion}
use Rattle.lk_types.specs.Commands.{IsCommand}
use Rattle.lk_members.specs.Effects.{Command}
use Rattle.lk_members.specs.Rosters.{Genesis}
use Rattle.lk_state.specs.Meanings.{Meaning}
use Rattle.lk_members.specs.Windows.{roster_after, sets_from}
use Rattle.lk_state.specs.Runs.{ran}
use Rattle.lk_state.specs.States.{WholeValue, whole_after, text_of, sessions_of}
use Rattle.lk_state.proofs.Wholes.{ran-whole_after}
use Rattle.lk_learner.specs.Learners.{Pair}
use Rattle.lk_learner.proofs.Learnerships.{ran_moves}
use Rattle.lk_recovery.specs.Revivals.{run_from, all_ran}
use Rattle.lk_locks.specs.Lists.{table_of}
use Rattle.lk_locks.specs.Meaning.{table_meaning}
use Rattle.lk_locks.specs.Packed.{IsTable, table_text, table_in}
use Rattle.lk_locks.specs.PackedLaws.{again}
use Rattle.lk_locks.specs.Plain.{Table}
use Rattle.lk_locks.proofs.Tables.{text_of-text, table_of-is_table}

-- one command after another
pub sums_behind : (m : Meaning) (genesis : Genesis) (L vs : List Command)
    → all_ran m vs (whole_after m genesis L) ≡ whole_after m genesis (L ++ vs)
sums_behind m genesis L [] = ap (whole_after m genesis) (sym (append-nil L))
sums_behind m genesis L (v ∷ vs) =
    ap (all_ran m vs) (ran-whole_after m genesis L v) ∙ sums_behind m genesis (L ++ v ∷ []) vs
    ∙ ap (whole_after m genesis) (append_assoc L (v ∷ []) vs)

-- the next pair is run, and after a gap nothing
pub next_runs : (e : ℕ) (p : Pair) (ps : List Pair) → p.0 ≡ e + 1 → run_from e (p ∷ ps) ≡ p.1 ∷ run_from (e + 1) ps
next_runs e p ps is = let same : eqb p.0 (e + 1) ≡ true = eq-eqb p.0 (e + 1) is in rw same refl

pub gap_stops : (e : ℕ) (p : Pair) (ps : List Pair) → (p.0 ≡ e + 1 → ⊥) → run_from e (p ∷ ps) ≡ []
gap_stops e p ps other =
    elim (cases_Bool (eqb p.0 (e + 1)))
    [ inl next ↦ absurd (other (eqb-true p.0 (e + 1) next)) | inr stops ↦ rw stops refl ]

module _ (m : Meaning) (w : WholeValue) (p : Pair) (rest : List Pair) where
  pub one_more : p.0 ≡ w.roster.executed + 1 → 1 ≤ length w.roster.sets
      → all_ran m (run_from (ran m p.1 w).roster.executed rest) (ran m p.1 w)
      ≡ all_ran m (run_from w.roster.executed (p ∷ rest)) w
  one_more is some =
      let moved = (ran_moves m p.1 w some).0 in
      let runs = next_runs w.roster.executed p rest is in
      rw moved (ap (λ (vs : List Command). all_ran m vs w) (sym runs))

  pub none_more : (p.0 ≡ w.roster.executed + 1 → ⊥) → w ≡ all_ran m (run_from w.roster.executed (p ∷ rest)) w
  none_more other = ap (λ (vs : List Command). all_ran m vs w) (sym (gap_stops w.roster.executed p rest other))

pub executed_is : (m : Meaning) (genesis : Genesis) (L : List Command)
    → (whole_after m genesis L).roster.executed ≡ length L
unfolding whole_after roster_after
executed_is m genesis L = refl

pub text_is : (m : Meaning) (genesis : Genesis) (L : List Command) → (whole_after m genesis L).text ≡ text_of m L
unfolding whole_after
text_is m genesis L = refl

pub sets_are : (m : Meaning) (genesis : Genesis) (L : List Command)
    → (whole_after m genesis L).roster.sets ≡ sets_from genesis L (length L + 1) genesis.alpha
unfolding whole_after roster_after
sets_are m genesis L = refl

pub sessions_are : (m : Meaning) (genesis : Genesis) (L : List Command)
    → (whole_after m genesis L).sessions ≡ sessions_of m genesis L
unfolding whole_after
sessions_are m genesis L = refl

-- what stands once the pairs after a list were run
pub stands_behind : (m : Meaning) (genesis : Genesis) (L : List Command) (v w : WholeValue) (ps qs : List Pair)
    → v ≡ whole_after m genesis L → ps ≡ qs
    → w ≡ all_ran m (run_from v.roster.executed ps) v → w ≡ whole_after m genesis (L ++ run_from (length L) qs)
stands_behind m genesis L v w ps qs sums same is =
    is ∙ ap (λ (x : WholeValue). all_ran m (run_from x.roster.executed ps) x) sums
    ∙ ap (λ (rest : List Pair). all_ran m (run_from (whole_after m genesis L).roster.executed rest)
    (whole_after m genesis L)) same
    ∙ ap (λ (e : ℕ). all_ran m (run_from e qs) (whole_after m genesis L)) (executed_is m genesis L)
    ∙ sums_behind m genesis L (run_from (length L) qs)

-- a table whose text is that of the list is its plain table
pub same_table : (t : Table) (L : List Command) → IsTable t → AllByRecursion IsCommand L
    → table_text t ≡ text_of table_meaning L → t ≡ table_of L
same_table t L fits all is =
    sym (again t fits) ∙ ap table_in (is ∙ text_of-text L all) ∙ again (table_of L) (table_of-is_table L all)
