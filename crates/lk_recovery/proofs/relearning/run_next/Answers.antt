use Rattle.std.proofs.Common.{◌≡◌, ℕ, ◌++◌, ◌∷◌, [], Some, sym, ◌∙◌, ap}
use Rattle.lk_learner.specs.Learners.{Command}
use Rattle.lk_node_interface.specs.declared.note.Note.TheVariants as note
use Rattle.lk_state.specs.declared.whole.Ran.{Ran}
use Rattle.lk_recovery.proofs.relearning.run_next.Goals as goal

position_is : (r s : Ran) → Some r ≡ Some s → r.position ≡ s.position
position_is r s e = cc e

pub returns-in_ok-push-clause-noted : goal.returns-in_ok-push-clause-noted
returns-in_ok-push-clause-noted g c next =
    let is = position_is c.in-Some.ran _ (sym c.in-Some.is ∙ c.in_ok-ran.ensures.ran c.args.command.now next) in
    let pushed : c.push.new.self.items ≡ c.args.notes.now.items
    ++ note.Ran c.args.node c.in-Some.ran.position c.args.command.now ∷ [] =
    c.in_ok-push.ensures.items
    ∙ ap (λ (v : Command). c.args.notes.now.items ++ note.Ran c.args.node c.in-Some.ran.position v ∷ [])
    c.copy.ensures in
    pushed ∙ ap (λ (i : ℕ). c.args.notes.now.items ++ note.Ran c.args.node i c.args.command.now ∷ []) is

pub returns-in_default-clause-noted : goal.returns-in_default-clause-noted
returns-in_default-clause-noted g c next =
    absurd (c.in_default.not-Some _ (c.in_ok-ran.ensures.ran c.args.command.now next))
