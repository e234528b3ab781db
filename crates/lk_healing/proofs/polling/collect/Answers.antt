use Rattle.std.proofs.Common.{rules, ◌≡◌, ℕ, List, sym, subst}
use Rattle.std.proofs.lemmas.Result.{on_ok_weaker}
use Rattle.lk_messages.specs.declared.message.Content.TheVariants as content
use Rattle.lk_messages.specs.declared.message.Message.{Message}
use Rattle.lk_messages.specs.declared.message.NodeMessage.TheVariants as kinds
use Rattle.lk_progress.specs.Exchanges.{prepare_by}
use Rattle.lk_healing.proofs.Leads.{candidate_up, contents, leads_now, prepare_is, prepares_on_their_way}
use Rattle.lk_healing.proofs.Leads.{promises_there}
use Rattle.lk_healing.specs.Polls.{HearsAt, StandAt}
use Rattle.lk_healing.proofs.polling.collect.Goals as goal

pub poll-requires-clause-each : goal.poll-requires-clause-each
poll-requires-clause-each g c =
    let is : c.message_of-prepare.result ≡ record {
      cluster = c.args.asking.now.cluster;
      content = content.Node c.args.candidate (kinds.Prepare c.args.asking.now.ballot c.args.asking.now.first);
    } = search rules in
    prepares_on_their_way g.M.Machine.meaning g.M.Machine.IsText c.a_due_node_asks_its_window.ensures
    c.a_prepare_is_promised_or_rejected_for_a_cause.ensures c.args.candidate c.args.nodes.now c.args.asking.now
    c.args.world.now c.requires c.a_due_tick_begins_a_ballot.ensures c.message_of-prepare.result
    (prepare_is g.M.Machine.meaning g.M.Machine.IsText c.a_due_node_asks_its_window.ensures
    c.a_prepare_is_promised_or_rejected_for_a_cause.ensures c.args.candidate c.args.nodes.now c.args.asking.now
    c.args.world.now c.requires c.message_of-prepare.result is)

pub deliver_all-requires-clause-up : goal.deliver_all-requires-clause-up
deliver_all-requires-clause-up g c =
    let is : c.message_of-prepare.result ≡ record {
      cluster = c.args.asking.now.cluster;
      content = content.Node c.args.candidate (kinds.Prepare c.args.asking.now.ballot c.args.asking.now.first);
    } = search rules in
    candidate_up g.M.Machine.meaning g.M.Machine.IsText c.a_due_node_asks_its_window.ensures
    c.a_prepare_is_promised_or_rejected_for_a_cause.ensures c.args.candidate c.args.nodes.now c.args.asking.now
    c.args.world.now c.requires c.poll.new.world c.in_ok-places.places.items
    (subst (λ (z : Message). HearsAt g.M.Machine.meaning g.M.Machine.IsText z.content c.args.nodes.now
    c.in_ok-places.places.items c.args.world.now c.poll.new.world)
    (prepare_is g.M.Machine.meaning g.M.Machine.IsText c.a_due_node_asks_its_window.ensures
    c.a_prepare_is_promised_or_rejected_for_a_cause.ensures c.args.candidate c.args.nodes.now c.args.asking.now
    c.args.world.now c.requires c.message_of-prepare.result is) c.in_ok-places.ensures.ok)

pub deliver_all-requires-clause-stand : goal.deliver_all-requires-clause-stand
deliver_all-requires-clause-stand g c =
    let is : c.message_of-prepare.result ≡ record {
      cluster = c.args.asking.now.cluster;
      content = content.Node c.args.candidate (kinds.Prepare c.args.asking.now.ballot c.args.asking.now.first);
    } = search rules in
    let run : HearsAt g.M.Machine.meaning g.M.Machine.IsText
    (content.Node c.args.candidate (prepare_by c.requires.candidate.node)) c.args.nodes.now
    c.in_ok-places.places.items c.args.world.now c.poll.new.world =
    subst (λ (z : Message). HearsAt g.M.Machine.meaning g.M.Machine.IsText z.content c.args.nodes.now
    c.in_ok-places.places.items c.args.world.now c.poll.new.world)
    (prepare_is g.M.Machine.meaning g.M.Machine.IsText c.a_due_node_asks_its_window.ensures
    c.a_prepare_is_promised_or_rejected_for_a_cause.ensures c.args.candidate c.args.nodes.now c.args.asking.now
    c.args.world.now c.requires c.message_of-prepare.result is) c.in_ok-places.ensures.ok in (
      contents g.M.Machine.meaning g.M.Machine.IsText c.a_due_node_asks_its_window.ensures
          c.a_prepare_is_promised_or_rejected_for_a_cause.ensures c.args.candidate c.args.nodes.now c.args.asking.now
          c.args.world.now c.requires c.poll.new.world c.in_ok-places.places.items run,
      subst (λ (ps : List ℕ). StandAt c.poll.new.world c.args.candidate ps
          (contents g.M.Machine.meaning g.M.Machine.IsText c.a_due_node_asks_its_window.ensures
          c.a_prepare_is_promised_or_rejected_for_a_cause.ensures c.args.candidate c.args.nodes.now c.args.asking.now
          c.args.world.now c.requires c.poll.new.world c.in_ok-places.places.items run)) (sym c.deref.ensures.value)
          (promises_there g.M.Machine.meaning g.M.Machine.IsText c.a_due_node_asks_its_window.ensures
          c.a_prepare_is_promised_or_rejected_for_a_cause.ensures c.args.candidate c.args.nodes.now c.args.asking.now
          c.args.world.now c.requires c.poll.new.world c.in_ok-places.places.items run),
    )

pub returns-clause-ok : goal.returns-clause-ok
returns-clause-ok g c k =
    let is : c.message_of-prepare.result ≡ record {
      cluster = c.args.asking.now.cluster;
      content = content.Node c.args.candidate (kinds.Prepare c.args.asking.now.ballot c.args.asking.now.first);
    } = search rules in
    let run : HearsAt g.M.Machine.meaning g.M.Machine.IsText
    (content.Node c.args.candidate (prepare_by k.candidate.node)) c.args.nodes.now
    c.in_ok-places.places.items c.args.world.now c.poll.new.world =
    subst (λ (z : Message). HearsAt g.M.Machine.meaning g.M.Machine.IsText z.content c.args.nodes.now
    c.in_ok-places.places.items c.args.world.now c.poll.new.world)
    (prepare_is g.M.Machine.meaning g.M.Machine.IsText c.a_due_node_asks_its_window.ensures
    c.a_prepare_is_promised_or_rejected_for_a_cause.ensures c.args.candidate c.args.nodes.now c.args.asking.now
    c.args.world.now k c.message_of-prepare.result is) c.in_ok-places.ensures.ok in
    on_ok_weaker c.deliver_all.result
    (λ turn. leads_now g.M.Machine.meaning g.M.Machine.IsText c.a_due_node_asks_its_window.ensures
    c.a_prepare_is_promised_or_rejected_for_a_cause.ensures c.args.candidate c.args.nodes.now c.args.asking.now
    c.args.world.now k c.poll.new.world c.in_ok-places.places.items run c.a_candidate_fills_in_a_world.ensures
    c.deliver_all.new.world turn)
    (c.deliver_all.ensures.ok
    (contents g.M.Machine.meaning g.M.Machine.IsText c.a_due_node_asks_its_window.ensures
    c.a_prepare_is_promised_or_rejected_for_a_cause.ensures c.args.candidate c.args.nodes.now c.args.asking.now
    c.args.world.now k c.poll.new.world c.in_ok-places.places.items run)
    (subst (λ (ps : List ℕ). StandAt c.poll.new.world c.args.candidate ps
    (contents g.M.Machine.meaning g.M.Machine.IsText c.a_due_node_asks_its_window.ensures
    c.a_prepare_is_promised_or_rejected_for_a_cause.ensures c.args.candidate c.args.nodes.now c.args.asking.now
    c.args.world.now k c.poll.new.world c.in_ok-places.places.items run)) (sym c.deref.ensures.value)
    (promises_there g.M.Machine.meaning g.M.Machine.IsText c.a_due_node_asks_its_window.ensures
    c.a_prepare_is_promised_or_rejected_for_a_cause.ensures c.args.candidate c.args.nodes.now c.args.asking.now
    c.args.world.now k c.poll.new.world c.in_ok-places.places.items run)))
