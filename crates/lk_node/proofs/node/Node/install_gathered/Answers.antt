use Rattle.std.proofs.Common.{◌∙◌, ap, subst}
use Rattle.lk_state.specs.Meanings.{Meaning}
use Rattle.lk_state.specs.Sessions.{AreSessions}
use Rattle.lk_state.specs.States.{WholeValue}
use Rattle.lk_node_interface.specs.Outboxes.{OutboxValue, with_rebase}
use Rattle.lk_node.specs.Installing.{EndsWaits}
use Rattle.lk_node.specs.NodeValue.{NodeValue}
use Rattle.lk_node.specs.SafeSteps.{ActsSafely}
use Rattle.lk_node.proofs.TakingUp.{takes_up_goes_on}
use Rattle.lk_node.proofs.node.Node.install_gathered.Goals as goal

pub returns-clause-safe : goal.returns-clause-safe
returns-clause-safe g c =
    let m : Meaning = g.M.Machine.meaning in
    let are : AreSessions c.args.self.now.learner.whole.sessions =
    subst (λ (node : NodeValue). AreSessions node.learner.whole.sessions) c.self.view_is
    (subst (λ (w : WholeValue). AreSessions w.sessions) c.whole.ensures c.facts.ensures.fits.sessions) in
    takes_up_goes_on m (λ h. Unit {0}) c.args.self.now c.reply_to_all_waiting.new.self c.execute.new.self
    c.reply_to_all_waiting.new.out c.execute.new.out are
    (subst (λ (o : OutboxValue). EndsWaits c.args.self.now.learner.whole.sessions c.args.self.now o
    c.reply_to_all_waiting.new.self c.reply_to_all_waiting.new.out)
    (c.rebase_store.ensures ∙ ap with_rebase c.new-out.ensures) c.in_ok-reply_to_all_waiting.ensures)
    (subst (λ (node : NodeValue). ActsSafely m
    (λ h. Unit {0}) node c.execute.new.self c.reply_to_all_waiting.new.out c.execute.new.out) c.end_term_outside.ensures
    c.in_ok-execute.ensures.safe)
