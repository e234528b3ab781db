use Rattle.std.proofs.Common.{◌≡◌, ◌∙◌, ◌+◌, ◌++◌, ◌∷◌, [], ℕ, ap, sym, subst, rules}
use Rattle.lk_learner.specs.Learners.{Command, LearnerValue, IsNext, executed, keeping, advanced}
use Rattle.lk_node_interface.specs.declared.note.Note.TheVariants as note
use Rattle.lk_recovery.proofs.Rerunning.{next_kept, none_next}
use Rattle.lk_recovery.proofs.relearning.learn.Goals as goal

pub returns-clause-runs : goal.returns-clause-runs
returns-clause-runs g c is =
    let kept : c.decided.new.self ≡ keeping c.args.pair.now c.args.learner.now =
    c.if-not-decided.ensures.kept (search rules) in
    c.in_ok-run_next.ensures.runs
    (subst (λ (l : LearnerValue). IsNext l c.args.pair.now.1) (sym kept)
    (next_kept c.args.pair.now c.args.learner.now is))
    ∙ ap (advanced g.M.Machine.meaning c.args.pair.now.1) kept

pub returns-clause-noted : goal.returns-clause-noted
returns-clause-noted g c is =
    let kept : c.decided.new.self ≡ keeping c.args.pair.now c.args.learner.now =
    c.if-not-decided.ensures.kept (search rules) in
    let place : executed c.decided.new.self + 1 ≡ c.args.pair.now.0 = ap (λ (l : LearnerValue). executed l + 1) kept
    ∙ sym is in
    c.in_ok-run_next.ensures.noted
    (subst (λ (l : LearnerValue). IsNext l c.args.pair.now.1) (sym kept)
    (next_kept c.args.pair.now c.args.learner.now is))
    ∙ ap (λ (i : ℕ). c.args.notes.now.items ++ note.Ran c.args.node i c.args.pair.now.1 ∷ []) place

pub returns-clause-keeps : goal.returns-clause-keeps
returns-clause-keeps g c other =
    let kept : c.decided.new.self ≡ keeping c.args.pair.now c.args.learner.now =
    c.if-not-decided.ensures.kept (search rules) in
    c.in_ok-run_next.ensures.none
    (subst (λ (l : LearnerValue). (v : Command) → IsNext l v → ⊥) (sym kept)
    (none_next c.args.pair.now c.args.learner.now c.requires.quiet other)) ∙ kept

pub returns-clause-silent : goal.returns-clause-silent
returns-clause-silent g c other =
    let kept : c.decided.new.self ≡ keeping c.args.pair.now c.args.learner.now =
    c.if-not-decided.ensures.kept (search rules) in
    c.in_ok-run_next.ensures.silent
    (subst (λ (l : LearnerValue). (v : Command) → IsNext l v → ⊥) (sym kept)
    (none_next c.args.pair.now c.args.learner.now c.requires.quiet other))
