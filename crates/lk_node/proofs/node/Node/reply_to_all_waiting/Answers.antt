use Rattle.std.proofs.Common.{◌≡◌, ◌∙◌, List, length, Some, refl, ap, arith}
use Rattle.std.specs.Prelude.{slice_get}
use Rattle.lk_state.specs.States.{WholeValue}
use Rattle.lk_state.specs.declared.session.Session.{Session}
use Rattle.lk_learner.specs.Learners.{LearnerValue}
use Rattle.lk_node.specs.Installing.{none_ended, one_ended}
use Rattle.lk_node.specs.NodeValue.{NodeValue}
use Rattle.lk_node.proofs.LearnerLaws.{element}
use Rattle.lk_node.proofs.node.Node.reply_to_all_waiting.Goals as goal

pub sessions-init : goal.sessions-init
sessions-init g c = (refl, none_ended)

pub sessions-preserved : goal.sessions-preserved
sessions-preserved g c =
    let at = c.sessions in
    let ss : List Session = c.args.self.now.learner.whole.sessions in
    let before : c.sessions-count.result.now ≡ ss =
    c.sessions-count.ensures ∙ ap (λ (w : WholeValue). w.sessions) c.whole.ensures
    ∙ ap (λ (node : NodeValue). node.learner.whole.sessions) c.self.view_is in
    let same : c.sessions-in-sessions.result.now ≡ ss =
    c.sessions-in-sessions.ensures ∙ ap (λ (w : WholeValue). w.sessions) c.whole-in-sessions.ensures
    ∙ ap (λ (node : NodeValue). node.learner.whole.sessions) c.self-in-sessions.view_is
    ∙ ap (λ (l : LearnerValue). l.whole.sessions) at.invariant.0 in
    let here : slice_get ss at.index ≡ Some c.index-sessions-index.result =
    element c.sessions-in-sessions.result.now ss at.index c.index-sessions-index.result same
    (omega (arith, c.sessions-test.true, ap length before, ap length same)) c.index-sessions-index.is in (
      ap (λ (node : NodeValue). node.learner) c.in_ok-reply_to_waiting.ensures.becomes ∙ at.invariant.0,
      one_ended c.index-sessions-index.result at.invariant.1 here c.in_ok-reply_to_waiting.ensures,
    )
