use Rattle.std.proofs.Common.{ℕ, ◌+◌, ◌++◌, ◌∷◌, [], List, eqb, length, ◌≤◌, drop, drop_of_length-le, inl, inr, sym}
use Rattle.std.proofs.Common.{subst, rules}
use Rattle.std.proofs.lemmas.Bool.{cases_Bool, eqb-true, eqb-false}
use Rattle.lk_learner.specs.Learners.{Pair, LearnerValue, executed, keeping, advanced}
use Rattle.lk_node_interface.specs.declared.note.Note.{Note}
use Rattle.lk_state.specs.Meanings.{Meaning}
use Rattle.lk_state.specs.States.{WholeValue}
use Rattle.lk_recovery.proofs.Rerunning.{Comes, comes_kept, comes_run, comes_reached, comes_noted, comes_to, comes_near}
use Rattle.lk_recovery.proofs.Rerunning.{comes_far, drop_next}
use Rattle.lk_recovery.proofs.relearning.relearn.Goals as goal

-- after the last pair none is still to come
ended : {m : Meaning} {node : ℕ} {w : WholeValue} {pairs : List Pair} {l : LearnerValue} {notes : List Note}
    (ps : List Pair) (k : ℕ) → length ps ≤ k → Comes m node w pairs l notes (l.pairs ++ drop k ps)
    → Comes m node w pairs l notes (l.pairs ++ [])
ended {m} {node} {w} {pairs} {l} {notes} ps k le =
    subst (λ (rest : List Pair). Comes m node w pairs l notes (l.pairs ++ rest)) (drop_of_length-le ps le)

pub pairs-preserved : goal.pairs-preserved
pairs-preserved g c =
    let m : Meaning = g.M.Machine.meaning in
    let l : LearnerValue = c.pairs.learner in
    let p : Pair = c.pair-item.result in
    let rest : List Pair = drop (c.pairs.pair-index + 1) c.args.pairs.now in
    let more = drop_next c.args.pairs.now c.pairs.pair-index p (search rules) (search rules) in
    let comes : Comes m c.args.node c.args.whole c.args.pairs.now l c.pairs.notes.items (l.pairs ++ p ∷ rest) =
    subst (λ (ps : List Pair). Comes m c.args.node c.args.whole c.args.pairs.now l c.pairs.notes.items (l.pairs ++ ps))
    more c.pairs.invariant in
    elim (cases_Bool (eqb p.0 (executed l + 1))) [
      | inl next ↦
          let is = eqb-true p.0 (executed l + 1) next in
          let k = c.in_ok-learn.ensures.runs is in
          let n = c.in_ok-learn.ensures.noted is in
          subst (λ (x : LearnerValue). Comes m c.args.node c.args.whole c.args.pairs.now x c.learn.new.notes.items
          (x.pairs ++ rest)) (sym k)
          (subst (λ (ns : List Note). Comes m c.args.node c.args.whole c.args.pairs.now
          (advanced m p.1 (keeping p l)) ns ((advanced m p.1 (keeping p l)).pairs ++ rest)) (sym n)
          (comes_run m c.args.node c.args.whole c.args.pairs.now l c.pairs.notes.items p rest
          c.learn.ensures.fits comes is))
      | inr not_next ↦
          let other = eqb-false p.0 (executed l + 1) not_next in
          let k = c.in_ok-learn.ensures.keeps other in
          let n = c.in_ok-learn.ensures.silent other in
          subst (λ (x : LearnerValue). Comes m c.args.node c.args.whole c.args.pairs.now x c.learn.new.notes.items
          (x.pairs ++ rest)) (sym k)
          (subst (λ (ns : List Note). Comes m c.args.node c.args.whole c.args.pairs.now (keeping p l) ns
          ((keeping p l).pairs ++ rest)) (sym n)
          (comes_kept m c.args.node c.args.whole c.args.pairs.now l c.pairs.notes.items p rest comes other))
    ]

pub returns-in_err-learn-clause-damaged : goal.returns-in_err-learn-clause-damaged
returns-in_err-learn-clause-damaged g c is all =
    let m : Meaning = g.M.Machine.meaning in
    let l : LearnerValue = c.pairs.learner in
    let p : Pair = c.pair-item.result in
    let rest : List Pair = drop (c.pairs.pair-index + 1) c.args.pairs.now in
    let more = drop_next c.args.pairs.now c.pairs.pair-index p (search rules) (search rules) in
    let comes : Comes m c.args.node c.args.whole c.args.pairs.now l c.pairs.notes.items (l.pairs ++ p ∷ rest) =
    subst (λ (ps : List Pair). Comes m c.args.node c.args.whole c.args.pairs.now l c.pairs.notes.items (l.pairs ++ ps))
    more c.pairs.invariant in
    comes_far m c.args.node c.args.whole c.args.pairs.now l c.pairs.notes.items c.learn.ensures.fits p rest comes
    (λ w. c.in_err-learn.ensures.damaged (search rules) w) (all p (c.pairs.pair-index, search rules, search rules))

pub returns-clause-learner : goal.returns-clause-learner
returns-clause-learner g c =
    comes_to _ c.args.node c.args.whole c.args.pairs.now c.pairs.learner c.pairs.notes.items
    (ended c.args.pairs.now c.pairs.pair-index c.pairs-test.false c.pairs.invariant)

pub returns-clause-notes : goal.returns-clause-notes
returns-clause-notes g c =
    comes_noted _ c.args.node c.args.whole c.args.pairs.now c.pairs.learner c.pairs.notes.items
    (ended c.args.pairs.now c.pairs.pair-index c.pairs-test.false c.pairs.invariant)

pub returns-clause-reaches : goal.returns-clause-reaches
returns-clause-reaches g c =
    comes_reached _ c.args.node c.args.whole c.args.pairs.now c.pairs.learner c.pairs.notes.items
    (ended c.args.pairs.now c.pairs.pair-index c.pairs-test.false c.pairs.invariant)

pub returns-clause-near : goal.returns-clause-near
returns-clause-near g c p h =
    comes_near _ c.args.node c.args.whole c.args.pairs.now c.pairs.learner c.pairs.notes.items
    (ended c.args.pairs.now c.pairs.pair-index c.pairs-test.false c.pairs.invariant) c.facts.ensures p h
