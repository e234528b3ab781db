use Rattle.std.proofs.Common.{◌≡◌, ◌∙◌, ap, sym, subst}
use Rattle.lk_state.specs.Meanings.{Meaning}
use Rattle.lk_agreement_laws.specs.Chosen.{Command, ChosenAt}
use Rattle.lk_node_interface.specs.Outboxes.{OutboxValue, with_note}
use Rattle.lk_node_interface.specs.declared.note.Note.TheVariants as note
use Rattle.lk_node.specs.Learning.{Learns}
use Rattle.lk_node.specs.SafeSteps.{ActsSafely}
use Rattle.lk_node.proofs.DecidingLaws.{decides_goes_on}
use Rattle.lk_node.proofs.node.Node.decide.Goals as goal

pub returns-clause-safe : goal.returns-clause-safe
returns-clause-safe g c = λ at.
    let m : Meaning = g.M.Machine.meaning in
    let noted : c.note.new.self
    ≡ with_note (note.Counted c.node.result c.args.position c.args.members c.args.command.now) c.args.out.now =
    c.in_ok-note.ensures ∙ ap (λ (v : Command). with_note
    (note.Counted c.node.result c.args.position c.args.members v) c.args.out.now) c.copy.ensures in
    subst (λ (o : OutboxValue). ActsSafely m
    (λ h. ChosenAt h.genesis h.sent c.args.position c.args.command.now) c.args.self.now c.execute.new.self
    c.args.out.now o) (sym c.in_ok-add_envelopes.ensures)
    (decides_goes_on m c.args.members c.args.position c.args.command.now c.node.result c.args.self.now c.learn.new.self
    c.execute.new.self c.args.out.now c.learn.new.out c.execute.new.out c.in_ok-envelopes.envelopes.items
    at c.in_ok-envelopes.ensures
    (subst (λ (o : OutboxValue). Learns
    (c.args.position, c.args.command.now) c.args.self.now o c.learn.new.self c.learn.new.out) noted
    c.in_ok-learn.ensures.exact)
    c.in_ok-execute.ensures.exact.0
    (subst (λ (o : OutboxValue). ActsSafely m
    (λ h. ChosenAt h.genesis h.sent c.args.position c.args.command.now) c.args.self.now c.learn.new.self o
    c.learn.new.out) noted c.in_ok-learn.ensures.safe)
    c.in_ok-execute.ensures.safe)
