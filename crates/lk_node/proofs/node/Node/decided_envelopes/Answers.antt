use Rattle.std.proofs.Common.{◌∙◌, ℕ, List, ap, subst}
use Rattle.lk_messages.specs.Grammar.{IsMessage}
use Rattle.lk_messages.specs.declared.message.NodeMessage.{NodeMessage}
use Rattle.lk_members.specs.Windows.{RosterValue}
use Rattle.lk_node_interface.specs.DecidedMessages.{decided_message}
use Rattle.lk_node_interface.specs.Recipients.{envelopes_to}
use Rattle.lk_node_interface.specs.Saying.{saying}
use Rattle.lk_node.specs.NodeValue.{NodeValue}
use Rattle.lk_node.proofs.node.Node.decided_envelopes.Goals as goal

pub returns : goal.returns
returns g c = record {
  nodes = c.in_ok-others.others.items;
  others = c.in_ok-others.ensures;
  fits = subst (λ (n : NodeValue). IsMessage (saying n.header (decided_message (c.args.position, c.args.command.now))))
      c.self.view_is
      (subst (λ (m : NodeMessage). IsMessage (saying c.self.inside.header m)) c.in_ok-message.ensures
      c.in_ok-envelopes.ensures.fits);
  comes_to = c.in_ok-envelopes.ensures.envelopes
      ∙ ap (λ (r : RosterValue). envelopes_to c.self.inside.header r.sets c.in_ok-message.message c.deref.result.now)
      c.roster.ensures
      ∙ ap (λ (m : NodeMessage). envelopes_to c.self.inside.header c.args.self.now.learner.whole.roster.sets m
      c.deref.result.now) c.in_ok-message.ensures
      ∙ ap (λ (ns : List ℕ). envelopes_to c.self.inside.header c.args.self.now.learner.whole.roster.sets
      (decided_message (c.args.position, c.args.command.now)) ns) c.deref.ensures.value
      ∙ ap (λ (n : NodeValue). envelopes_to n.header c.args.self.now.learner.whole.roster.sets
      (decided_message (c.args.position, c.args.command.now)) c.in_ok-others.others.items) c.self.view_is;
}
