use Rattle.std.proofs.Common.{rules, ◌≡◌, ◌∙◌, ◌+◌, ◌-◌, ◌≤◌, ℕ, List, Option, None, ap, arith, drop, length}
use Rattle.std.proofs.Common.{refl, subst, sym}
use Rattle.std.specs.Prelude.{IsSome}
use Rattle.lk_messages.specs.declared.message.Content.TheVariants as content
use Rattle.lk_messages.specs.declared.message.Message.{Message}
use Rattle.lk_messages.specs.declared.message.NodeMessage.TheVariants as kinds
use Rattle.lk_node_interface.specs.declared.note.Note.{Note}
use Rattle.lk_world_progress.specs.Delivering.{HearsEach}
use Rattle.lk_healing.proofs.Filled.{fills_once, in_range, leader_in, mid_cluster, mid_up, offer_is}
use Rattle.lk_healing.proofs.Filled.{offers_on_their_way, replies_sent, trace_grows}
use Rattle.lk_healing.proofs.Traces.{ran_is}
use Rattle.lk_healing.proofs.filling.fill_next.Goals as goal
use Rattle.lk_healing.specs.Fills.{last_ran}

pub hand_each-requires-clause-each : goal.hand_each-requires-clause-each
hand_each-requires-clause-each g c =
    let is : c.message_of-accept.result ≡ record {
      cluster = c.args.asking.now.cluster;
      content = content.Node c.args.leader (kinds.Accept c.args.vote.now);
    } = search rules in
    offers_on_their_way g.M.Machine.meaning g.M.Machine.IsText c.args.world.now c.args.leader c.args.nodes.now
    c.args.asking.now c.args.vote.now.position c.args.vote.now c.requires c.message_of-accept.result
    (offer_is g.M.Machine.meaning g.M.Machine.IsText c.args.world.now c.args.leader c.args.nodes.now
    c.args.asking.now c.args.vote.now.position c.args.vote.now c.requires c.message_of-accept.result is)

pub hand_replies-requires-clause-cluster : goal.hand_replies-requires-clause-cluster
hand_replies-requires-clause-cluster g c =
    let is : c.message_of-accept.result ≡ record {
      cluster = c.args.asking.now.cluster;
      content = content.Node c.args.leader (kinds.Accept c.args.vote.now);
    } = search rules in
    let accepts : HearsEach g.M.Machine.meaning g.M.Machine.IsText (content.Node c.args.leader
    (kinds.Accept c.args.vote.now))
    c.args.nodes.now c.args.world.now c.hand_each.new.world =
    subst (λ (z : Message). HearsEach g.M.Machine.meaning g.M.Machine.IsText z.content c.args.nodes.now c.args.world.now
    c.hand_each.new.world)
    (offer_is g.M.Machine.meaning g.M.Machine.IsText c.args.world.now c.args.leader c.args.nodes.now
    c.args.asking.now c.args.vote.now.position c.args.vote.now c.requires c.message_of-accept.result is)
    c.in_ok-hand_each.ensures.ok in
    mid_cluster g.M.Machine.meaning g.M.Machine.IsText c.args.world.now c.args.leader c.args.nodes.now
    c.args.asking.now c.args.vote.now.position c.args.vote.now c.requires c.a_leader_accepts_its_own.ensures
    c.a_voter_accepts_and_stays.ensures c.hand_each.new.world accepts

pub hand_replies-requires-clause-up : goal.hand_replies-requires-clause-up
hand_replies-requires-clause-up g c =
    let is : c.message_of-accept.result ≡ record {
      cluster = c.args.asking.now.cluster;
      content = content.Node c.args.leader (kinds.Accept c.args.vote.now);
    } = search rules in
    let accepts : HearsEach g.M.Machine.meaning g.M.Machine.IsText (content.Node c.args.leader
    (kinds.Accept c.args.vote.now))
    c.args.nodes.now c.args.world.now c.hand_each.new.world =
    subst (λ (z : Message). HearsEach g.M.Machine.meaning g.M.Machine.IsText z.content c.args.nodes.now c.args.world.now
    c.hand_each.new.world)
    (offer_is g.M.Machine.meaning g.M.Machine.IsText c.args.world.now c.args.leader c.args.nodes.now
    c.args.asking.now c.args.vote.now.position c.args.vote.now c.requires c.message_of-accept.result is)
    c.in_ok-hand_each.ensures.ok in
    mid_up g.M.Machine.meaning g.M.Machine.IsText c.args.world.now c.args.leader c.args.nodes.now
    c.args.asking.now c.args.vote.now.position c.args.vote.now c.requires c.a_leader_accepts_its_own.ensures
    c.a_voter_accepts_and_stays.ensures c.hand_each.new.world accepts

pub hand_replies-requires-clause-leader : goal.hand_replies-requires-clause-leader
hand_replies-requires-clause-leader g c =
    let is : c.message_of-accept.result ≡ record {
      cluster = c.args.asking.now.cluster;
      content = content.Node c.args.leader (kinds.Accept c.args.vote.now);
    } = search rules in
    let accepts : HearsEach g.M.Machine.meaning g.M.Machine.IsText (content.Node c.args.leader
    (kinds.Accept c.args.vote.now))
    c.args.nodes.now c.args.world.now c.hand_each.new.world =
    subst (λ (z : Message). HearsEach g.M.Machine.meaning g.M.Machine.IsText z.content c.args.nodes.now c.args.world.now
    c.hand_each.new.world)
    (offer_is g.M.Machine.meaning g.M.Machine.IsText c.args.world.now c.args.leader c.args.nodes.now
    c.args.asking.now c.args.vote.now.position c.args.vote.now c.requires c.message_of-accept.result is)
    c.in_ok-hand_each.ensures.ok in
    mid_up g.M.Machine.meaning g.M.Machine.IsText c.args.world.now c.args.leader c.args.nodes.now
    c.args.asking.now c.args.vote.now.position c.args.vote.now c.requires c.a_leader_accepts_its_own.ensures
    c.a_voter_accepts_and_stays.ensures c.hand_each.new.world accepts c.args.leader
    (leader_in g.M.Machine.meaning g.M.Machine.IsText c.args.world.now c.args.leader c.args.nodes.now
    c.args.asking.now c.args.vote.now.position c.args.vote.now c.requires)

pub hand_replies-requires-clause-sent : goal.hand_replies-requires-clause-sent
hand_replies-requires-clause-sent g c =
    let is : c.message_of-accept.result ≡ record {
      cluster = c.args.asking.now.cluster;
      content = content.Node c.args.leader (kinds.Accept c.args.vote.now);
    } = search rules in
    let accepts : HearsEach g.M.Machine.meaning g.M.Machine.IsText (content.Node c.args.leader
    (kinds.Accept c.args.vote.now))
    c.args.nodes.now c.args.world.now c.hand_each.new.world =
    subst (λ (z : Message). HearsEach g.M.Machine.meaning g.M.Machine.IsText z.content c.args.nodes.now c.args.world.now
    c.hand_each.new.world)
    (offer_is g.M.Machine.meaning g.M.Machine.IsText c.args.world.now c.args.leader c.args.nodes.now
    c.args.asking.now c.args.vote.now.position c.args.vote.now c.requires c.message_of-accept.result is)
    c.in_ok-hand_each.ensures.ok in
    replies_sent g.M.Machine.meaning g.M.Machine.IsText c.args.world.now c.args.leader c.args.nodes.now
    c.args.asking.now c.args.vote.now.position c.args.vote.now c.requires c.a_leader_accepts_its_own.ensures
    c.a_voter_accepts_and_stays.ensures c.hand_each.new.world accepts

pub slice_bounds-last_ran-count : goal.slice_bounds-last_ran-count
slice_bounds-last_ran-count g c =
    let is : c.message_of-accept.result ≡ record {
      cluster = c.args.asking.now.cluster;
      content = content.Node c.args.leader (kinds.Accept c.args.vote.now);
    } = search rules in
    let accepts : HearsEach g.M.Machine.meaning g.M.Machine.IsText (content.Node c.args.leader
    (kinds.Accept c.args.vote.now))
    c.args.nodes.now c.args.world.now c.hand_each.new.world =
    subst (λ (z : Message). HearsEach g.M.Machine.meaning g.M.Machine.IsText z.content c.args.nodes.now c.args.world.now
    c.hand_each.new.world)
    (offer_is g.M.Machine.meaning g.M.Machine.IsText c.args.world.now c.args.leader c.args.nodes.now
    c.args.asking.now c.args.vote.now.position c.args.vote.now c.requires c.message_of-accept.result is)
    c.in_ok-hand_each.ensures.ok in
    let more : length c.hand_each.new.world.trace ≤ length c.hand_replies.new.world.trace = trace_grows
    g.M.Machine.meaning g.M.Machine.IsText c.args.world.now c.args.leader c.args.nodes.now
    c.args.asking.now c.args.vote.now.position c.args.vote.now c.requires c.a_leader_accepts_its_own.ensures
    c.a_voter_accepts_and_stays.ensures c.hand_each.new.world accepts
    c.a_position_is_filled.ensures c.hand_replies.new.world c.in_ok-hand_replies.ensures.ok
    (last_ran c.args.leader (c.args.vote.now.position - 1)
    (drop (length c.hand_each.new.world.trace) c.hand_replies.new.world.trace) + 1) refl in
    subst (λ (notes : List Note). length notes ≤ length c.trace.result.now) (sym c.trace-noted.ensures)
    (subst (λ (notes : List Note). length c.hand_each.new.world.trace ≤ length notes) (sym c.trace.ensures) more)

pub slice_bounds-last_ran-start : goal.slice_bounds-last_ran-start
slice_bounds-last_ran-start g c =
    let is : c.message_of-accept.result ≡ record {
      cluster = c.args.asking.now.cluster;
      content = content.Node c.args.leader (kinds.Accept c.args.vote.now);
    } = search rules in
    let accepts : HearsEach g.M.Machine.meaning g.M.Machine.IsText (content.Node c.args.leader
    (kinds.Accept c.args.vote.now))
    c.args.nodes.now c.args.world.now c.hand_each.new.world =
    subst (λ (z : Message). HearsEach g.M.Machine.meaning g.M.Machine.IsText z.content c.args.nodes.now c.args.world.now
    c.hand_each.new.world)
    (offer_is g.M.Machine.meaning g.M.Machine.IsText c.args.world.now c.args.leader c.args.nodes.now
    c.args.asking.now c.args.vote.now.position c.args.vote.now c.requires c.message_of-accept.result is)
    c.in_ok-hand_each.ensures.ok in
    let more : length c.hand_each.new.world.trace ≤ length c.hand_replies.new.world.trace = trace_grows
    g.M.Machine.meaning g.M.Machine.IsText c.args.world.now c.args.leader c.args.nodes.now
    c.args.asking.now c.args.vote.now.position c.args.vote.now c.requires c.a_leader_accepts_its_own.ensures
    c.a_voter_accepts_and_stays.ensures c.hand_each.new.world accepts
    c.a_position_is_filled.ensures c.hand_replies.new.world c.in_ok-hand_replies.ensures.ok
    (last_ran c.args.leader (c.args.vote.now.position - 1)
    (drop (length c.hand_each.new.world.trace) c.hand_replies.new.world.trace) + 1) refl in
    subst (λ (notes : List Note). length notes ≤ length c.trace.result.now) (sym c.trace-noted.ensures)
    (subst (λ (notes : List Note). length c.hand_each.new.world.trace ≤ length notes) (sym c.trace.ensures) more)

pub overflow_add-executed : goal.overflow_add-executed
overflow_add-executed g c =
    let is : c.message_of-accept.result ≡ record {
      cluster = c.args.asking.now.cluster;
      content = content.Node c.args.leader (kinds.Accept c.args.vote.now);
    } = search rules in
    let accepts : HearsEach g.M.Machine.meaning g.M.Machine.IsText (content.Node c.args.leader
    (kinds.Accept c.args.vote.now))
    c.args.nodes.now c.args.world.now c.hand_each.new.world =
    subst (λ (z : Message). HearsEach g.M.Machine.meaning g.M.Machine.IsText z.content c.args.nodes.now c.args.world.now
    c.hand_each.new.world)
    (offer_is g.M.Machine.meaning g.M.Machine.IsText c.args.world.now c.args.leader c.args.nodes.now
    c.args.asking.now c.args.vote.now.position c.args.vote.now c.requires c.message_of-accept.result is)
    c.in_ok-hand_each.ensures.ok in
    let ran : c.last_ran-executed.result ≡ last_ran c.args.leader (c.args.vote.now.position - 1)
    (drop (length c.hand_each.new.world.trace) c.hand_replies.new.world.trace) =
    ran_is c.args.leader c.last_ran-executed.result c.get-before.result c.args.vote.now.position
    c.trace-noted.result.now c.trace.result.now c.hand_each.new.world.trace c.hand_replies.new.world.trace
    c.trace-noted.ensures c.trace.ensures c.get-before.ensures.value c.last_ran-executed.ensures in
    let low : c.last_ran-executed.result + 1 ≤ 281474976710656 = in_range g.M.Machine.meaning g.M.Machine.IsText
    c.args.world.now c.args.leader c.args.nodes.now
    c.args.asking.now c.args.vote.now.position c.args.vote.now c.requires c.a_leader_accepts_its_own.ensures
    c.a_voter_accepts_and_stays.ensures c.hand_each.new.world accepts
    c.a_position_is_filled.ensures c.hand_replies.new.world c.in_ok-hand_replies.ensures.ok
    (c.last_ran-executed.result + 1) (ap (λ (i : ℕ). i + 1) ran) in
    search rules

pub returns-clause-ok : goal.returns-clause-ok
returns-clause-ok g c =
    let is : c.message_of-accept.result ≡ record {
      cluster = c.args.asking.now.cluster;
      content = content.Node c.args.leader (kinds.Accept c.args.vote.now);
    } = search rules in
    let accepts : HearsEach g.M.Machine.meaning g.M.Machine.IsText (content.Node c.args.leader
    (kinds.Accept c.args.vote.now))
    c.args.nodes.now c.args.world.now c.hand_each.new.world =
    subst (λ (z : Message). HearsEach g.M.Machine.meaning g.M.Machine.IsText z.content c.args.nodes.now c.args.world.now
    c.hand_each.new.world)
    (offer_is g.M.Machine.meaning g.M.Machine.IsText c.args.world.now c.args.leader c.args.nodes.now
    c.args.asking.now c.args.vote.now.position c.args.vote.now c.requires c.message_of-accept.result is)
    c.in_ok-hand_each.ensures.ok in
    let ran : c.last_ran-executed.result ≡ last_ran c.args.leader (c.args.vote.now.position - 1)
    (drop (length c.hand_each.new.world.trace) c.hand_replies.new.world.trace) =
    ran_is c.args.leader c.last_ran-executed.result c.get-before.result c.args.vote.now.position
    c.trace-noted.result.now c.trace.result.now c.hand_each.new.world.trace c.hand_replies.new.world.trace
    c.trace-noted.ensures c.trace.ensures c.get-before.ensures.value c.last_ran-executed.ensures in
    fills_once g.M.Machine.meaning g.M.Machine.IsText c.args.world.now c.args.leader c.args.nodes.now
    c.args.asking.now c.args.vote.now.position c.args.vote.now c.requires c.a_leader_accepts_its_own.ensures
    c.a_voter_accepts_and_stays.ensures c.hand_each.new.world accepts
    c.a_position_is_filled.ensures c.hand_replies.new.world c.in_ok-hand_replies.ensures.ok
    c.in-Some.next (c.in-Some.ensures.value ∙ ap (λ (i : ℕ). i + 1) ran)

is_none : {X : Type 0} (o : Option X) → o ≡ None → IsSome o → ⊥
is_none o none some = cc (none, some)

pub unreachable-requires : goal.unreachable-requires
unreachable-requires g c =
    let is : c.message_of-accept.result ≡ record {
      cluster = c.args.asking.now.cluster;
      content = content.Node c.args.leader (kinds.Accept c.args.vote.now);
    } = search rules in
    let accepts : HearsEach g.M.Machine.meaning g.M.Machine.IsText (content.Node c.args.leader
    (kinds.Accept c.args.vote.now))
    c.args.nodes.now c.args.world.now c.hand_each.new.world =
    subst (λ (z : Message). HearsEach g.M.Machine.meaning g.M.Machine.IsText z.content c.args.nodes.now c.args.world.now
    c.hand_each.new.world)
    (offer_is g.M.Machine.meaning g.M.Machine.IsText c.args.world.now c.args.leader c.args.nodes.now
    c.args.asking.now c.args.vote.now.position c.args.vote.now c.requires c.message_of-accept.result is)
    c.in_ok-hand_each.ensures.ok in
    let ran : c.last_ran-executed.result ≡ last_ran c.args.leader (c.args.vote.now.position - 1)
    (drop (length c.hand_each.new.world.trace) c.hand_replies.new.world.trace) =
    ran_is c.args.leader c.last_ran-executed.result c.get-before.result c.args.vote.now.position
    c.trace-noted.result.now c.trace.result.now c.hand_each.new.world.trace c.hand_replies.new.world.trace
    c.trace-noted.ensures c.trace.ensures c.get-before.ensures.value c.last_ran-executed.ensures in
    let low : c.last_ran-executed.result + 1 ≤ 281474976710656 = in_range g.M.Machine.meaning g.M.Machine.IsText
    c.args.world.now c.args.leader c.args.nodes.now
    c.args.asking.now c.args.vote.now.position c.args.vote.now c.requires c.a_leader_accepts_its_own.ensures
    c.a_voter_accepts_and_stays.ensures c.hand_each.new.world accepts
    c.a_position_is_filled.ensures c.hand_replies.new.world c.in_ok-hand_replies.ensures.ok
    (c.last_ran-executed.result + 1) (ap (λ (i : ℕ). i + 1) ran) in
    let some : IsSome c.of.result = c.of.ensures.some.1 (omega arith, low) in
    is_none c.of.result c.in-None.is some
