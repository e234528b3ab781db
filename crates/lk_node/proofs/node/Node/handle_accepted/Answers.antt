use Rattle.std.proofs.Common.{sym, subst}
use Rattle.lk_messages.specs.declared.message.NodeMessage.TheVariants as kinds
use Rattle.lk_state.specs.Meanings.{Meaning}
use Rattle.lk_agreement_laws.specs.Chosen.{ChosenAt}
use Rattle.lk_agreement_laws.specs.Datagrams.{HasSent}
use Rattle.lk_node_interface.specs.Outboxes.{OutboxValue, nothing}
use Rattle.lk_node.specs.Deciding.{Decides}
use Rattle.lk_node.specs.SafeSteps.{ActsSafely}
use Rattle.lk_node.proofs.DecidingLaws.{only_heard_goes_on, are_members, accepted_goes_on, hears_accepted}
use Rattle.lk_node.proofs.node.Node.handle_accepted.Goals as goal

pub returns-in_default-clause-safe : goal.returns-in_default-clause-safe
returns-in_default-clause-safe g c =
    let m : Meaning = g.M.Machine.meaning in
    subst (λ (o : OutboxValue). ActsSafely m
    (λ h. HasSent h.genesis h.sent c.args.from (kinds.Accepted c.args.vote.now)) c.args.self.now c.count_vote.new.self
    nothing o) (sym c.new-out.ensures)
    (only_heard_goes_on m c.args.from c.args.vote.now c.args.self.now c.count_vote.new.self
    nothing c.in_default.ensures)

pub returns-clause-exact : goal.returns-clause-exact
returns-clause-exact g c =
    let m : Meaning = g.M.Machine.meaning in
    hears_accepted m c.args.from c.args.vote.now c.args.self.now c.count_vote.new.self c.decide.new.self
    c.in-Some.members c.decide.new.out c.in-Some.ensures
    (subst (λ (o : OutboxValue). Decides m c.in-Some.members
    (c.args.vote.now.position, c.args.vote.now.command) c.count_vote.new.self o c.decide.new.self c.decide.new.out)
    c.new-out.ensures c.in_ok-decide.ensures.exact)

pub returns-clause-safe : goal.returns-clause-safe
returns-clause-safe g c =
    let m : Meaning = g.M.Machine.meaning in
    accepted_goes_on m c.args.from c.args.vote.now c.args.self.now c.count_vote.new.self c.decide.new.self
    c.in-Some.members nothing c.decide.new.out c.in-Some.ensures
    (subst (λ (o : OutboxValue). ActsSafely m
    (λ h. ChosenAt h.genesis h.sent c.args.vote.now.position c.args.vote.now.command) c.count_vote.new.self
    c.decide.new.self o c.decide.new.out) c.new-out.ensures
    (c.in_ok-decide.ensures.safe
    (are_members c.args.from c.args.vote.now c.args.self.now c.count_vote.new.self
    c.in-Some.members c.in-Some.ensures)))
