use Rattle.std.proofs.Common.{subst}
use Rattle.lk_state.specs.Meanings.{Meaning}
use Rattle.lk_node_interface.specs.Outboxes.{OutboxValue, nothing}
use Rattle.lk_node.specs.Histories.{History}
use Rattle.lk_node.specs.SafeSteps.{ActsSafely}
use Rattle.lk_node.proofs.SafeSteps.{then_goes_on}
use Rattle.lk_node.proofs.node.Node.remind.Goals as goal

pub returns-clause-safe : goal.returns-clause-safe
returns-clause-safe g c =
    let m : Meaning = g.M.Machine.meaning in
    let Any : History → Type 0 = λ h. Unit {0} in
    then_goes_on m Any c.args.self.now c.propose.new.self c.propose.new.self nothing
    c.propose.new.out c.send_lead.new.out
    (then_goes_on m Any c.args.self.now c.args.self.now c.propose.new.self nothing
    c.resend_accepts.new.out c.propose.new.out
    (then_goes_on m Any c.args.self.now c.args.self.now c.args.self.now nothing
    c.resend_prepares.new.out c.resend_accepts.new.out
    (subst (λ (o : OutboxValue). ActsSafely m Any c.args.self.now c.args.self.now o c.resend_prepares.new.out)
    c.new-out.ensures c.in_ok-resend_prepares.ensures.safe)
    c.in_ok-resend_accepts.ensures.safe)
    c.in_ok-propose.ensures.safe)
    c.in_ok-send_lead.ensures.safe
