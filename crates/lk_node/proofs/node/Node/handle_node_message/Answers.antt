use Rattle.std.proofs.Common.{sym, subst}
use Rattle.std.specs.Prelude.{IfOk}
use Rattle.lk_wire.specs.Shown.{shown_node}
use Rattle.lk_wire.specs.declared.viewing.message.NodeMessageRef.{NodeMessageRef}
use Rattle.lk_agreement_laws.specs.Datagrams.{HasSent}
use Rattle.lk_state.specs.Meanings.{Meaning}
use Rattle.lk_types.specs.declared.vote.Vote.{Vote}
use Rattle.lk_node_interface.specs.Outboxes.{nothing}
use Rattle.lk_node.specs.Deciding.{HandlesAccepted}
use Rattle.lk_node.specs.SafeSteps.{ActsSafely}
use Rattle.lk_node.specs.Steps.{HandlesNode}
use Rattle.lk_node.proofs.node.Node.handle_node_message.Goals as goal

pub returns-in-Decided-clause-safe : goal.returns-in-Decided-clause-safe
returns-in-Decided-clause-safe g c =
    subst (λ (x : NodeMessageRef). IfOk c.handle_decided.result
    (λ o. ActsSafely g.M.Machine.meaning
    (λ h. HasSent h.genesis h.sent c.args.from (shown_node x)) c.args.self.now c.handle_decided.new.self nothing o))
    (sym c.in-Decided.is) (c.handle_decided.ensures.safe c.args.from)

pub returns-in-Part-clause-safe : goal.returns-in-Part-clause-safe
returns-in-Part-clause-safe g c =
    subst (λ (x : NodeMessageRef). IfOk c.handle_part.result
    (λ o. ActsSafely g.M.Machine.meaning
    (λ h. HasSent h.genesis h.sent c.args.from (shown_node x)) c.args.self.now c.handle_part.new.self nothing o))
    (sym c.in-Part.is) (c.handle_part.ensures.safe c.args.from)

pub returns-in-Accepted-clause-exact : goal.returns-in-Accepted-clause-exact
returns-in-Accepted-clause-exact g c =
    let m : Meaning = g.M.Machine.meaning in
    let vote : Vote = c.in-Accepted.vote in
    let heard : IfOk c.handle_accepted.result
    (λ o. HandlesAccepted m c.args.from vote c.args.self.now c.handle_accepted.new.self o) =
    subst (λ (v : Vote). IfOk c.handle_accepted.result
    (λ o. HandlesAccepted m c.args.from v c.args.self.now c.handle_accepted.new.self o))
    c.vote-in-Accepted.ensures.value
    c.handle_accepted.ensures.exact in
    subst (λ (x : NodeMessageRef). IfOk c.handle_accepted.result
    (λ o. HandlesNode m g.M.Machine.IsText c.args.self.now c.args.from (shown_node x) c.handle_accepted.new.self o))
    (sym c.in-Accepted.is) heard
