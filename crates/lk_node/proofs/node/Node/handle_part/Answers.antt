use Rattle.std.proofs.Common.{◌∙◌, ap, sym, subst}
use Rattle.lk_messages.specs.declared.message.NodeMessage.TheVariants as kinds
use Rattle.lk_agreement_laws.specs.Datagrams.{HasSent}
use Rattle.lk_state.specs.Meanings.{Meaning, KeepsTexts}
use Rattle.lk_node_interface.specs.Outboxes.{OutboxValue, nothing}
use Rattle.lk_node.specs.Histories.{History}
use Rattle.lk_node.specs.NodeValue.{NodeValue}
use Rattle.lk_node.specs.SafeSteps.{ActsSafely}
use Rattle.lk_node.proofs.InstallLaws.{BeganWell, began_well, gathers_goes_on}
use Rattle.lk_node.proofs.LearnerLaws.{yet_to_accept}
use Rattle.lk_node.proofs.SafeSteps.{then_goes_on}
use Rattle.lk_node.proofs.node.Node.handle_part.Goals as goal

pub returns-then-not-branch-clause-safe : goal.returns-then-not-branch-clause-safe
returns-then-not-branch-clause-safe g c = λ from.
    let m : Meaning = g.M.Machine.meaning in
    let keeps : KeepsTexts g.M.Machine.IsText m =
    record {
      first = g.met.M.Machine.first_is_text;
      next = g.met.M.Machine.next_is_text;
      answer = g.met.M.Machine.answer_is_answer;
    } in
    let began : BeganWell c.args.self.now =
    (λ k n is. began_well c.genesis.result.now k c.self.inside.header n c.genesis.ensures.cluster
    c.genesis.ensures.alpha c.genesis.ensures.members
    c.facts.ensures (ap (λ (node : NodeValue). node.header) c.self.view_is ∙ is)) in
    subst (λ (o : OutboxValue). ActsSafely m
    (λ h. HasSent h.genesis h.sent from (kinds.Part c.args.part.now)) c.args.self.now c.add_part.new.self nothing o)
    (sym c.new.ensures)
    (gathers_goes_on m from g.M.Machine.IsText keeps c.in_ok-add_part.field-0 c.args.part.now c.args.self.now
    c.add_part.new.self nothing began c.in_ok-add_part.ensures)

pub returns-clause-safe : goal.returns-clause-safe
returns-clause-safe g c = λ from.
    let m : Meaning = g.M.Machine.meaning in
    let keeps : KeepsTexts g.M.Machine.IsText m =
    record {
      first = g.met.M.Machine.first_is_text;
      next = g.met.M.Machine.next_is_text;
      answer = g.met.M.Machine.answer_is_answer;
    } in
    let began : BeganWell c.args.self.now =
    (λ k n is. began_well c.genesis.result.now k c.self.inside.header n c.genesis.ensures.cluster
    c.genesis.ensures.alpha c.genesis.ensures.members
    c.facts.ensures (ap (λ (node : NodeValue). node.header) c.self.view_is ∙ is)) in
    let Heard : History → Type 0 = λ (h : History). HasSent h.genesis h.sent from (kinds.Part c.args.part.now) in
    then_goes_on m Heard c.args.self.now c.add_part.new.self c.install_gathered.new.self nothing nothing c.in_ok-out.out
    (gathers_goes_on m from g.M.Machine.IsText keeps c.in_ok-add_part.field-0 c.args.part.now c.args.self.now
    c.add_part.new.self nothing began c.in_ok-add_part.ensures)
    (yet_to_accept m Heard c.add_part.new.self c.install_gathered.new.self nothing c.in_ok-out.out
    c.in_ok-out.ensures.safe)
