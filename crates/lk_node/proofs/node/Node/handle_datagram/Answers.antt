use Rattle.lk_state.specs.Meanings.{Meaning}
use Rattle.lk_node_interface.specs.Outboxes.{nothing}
use Rattle.lk_node.specs.Histories.{History, IsHeard}
use Rattle.lk_node.proofs.SafeSteps.{then_goes_on, heard_goes_on}
use Rattle.lk_node.proofs.node.Node.handle_datagram.Goals as goal

pub returns-clause-safe : goal.returns-clause-safe
returns-clause-safe g c =
    let m : Meaning = g.M.Machine.meaning in
    let Heard : History → Type 0 = λ h. IsHeard h c.args.datagram.now in
    then_goes_on m Heard c.args.self.now c.handle_bytes.new.self c.propose.new.self nothing c.in_ok-out.out
    c.propose.new.out c.in_ok-out.ensures.safe
    (heard_goes_on m Heard (λ h. Unit {0}) c.handle_bytes.new.self c.propose.new.self c.in_ok-out.out c.propose.new.out
    (λ h n loose s heard. tt) c.in_ok-propose.ensures.safe)
