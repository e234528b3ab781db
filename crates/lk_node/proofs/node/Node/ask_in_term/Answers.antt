use Rattle.lk_state.specs.Meanings.{Meaning}
use Rattle.lk_node_interface.specs.Outboxes.{nothing}
use Rattle.lk_node.specs.Histories.{History}
use Rattle.lk_node.proofs.SafeSteps.{then_goes_on}
use Rattle.lk_node.proofs.node.Node.ask_in_term.Goals as goal

pub returns-clause-safe : goal.returns-clause-safe
returns-clause-safe g c =
    let m : Meaning = g.M.Machine.meaning in
    let Any : History → Type 0 = λ h. Unit {0} in
    then_goes_on m Any c.args.self.now c.args.self.now c.propose.new.self nothing c.in_ok-out.out c.propose.new.out
    c.in_ok-out.ensures.safe c.in_ok-propose.ensures.safe
