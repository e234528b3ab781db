use Rattle.std.proofs.Common.{rules, ◌≡◌, ℕ, List, Contains, sym, subst}
use Rattle.lk_messages.specs.declared.message.Content.TheVariants as content
use Rattle.lk_messages.specs.declared.message.Message.{Message}
use Rattle.lk_messages.specs.declared.message.NodeMessage.{NodeMessage}
use Rattle.lk_messages.specs.declared.message.NodeMessage.TheVariants as kinds
use Rattle.lk_agreement_laws.specs.Datagrams.{Datagram}
use Rattle.lk_progress.proofs.Electing.{due_asks}
use Rattle.lk_progress.proofs.Rejecting.{prepare_has_cause}
use Rattle.lk_progress.specs.Exchanges.{prepare_by}
use Rattle.lk_sim_nodes.specs.declared.sim_node.RunState.TheVariants.{Up}
use Rattle.lk_healing.proofs.Ballots.{are_there, loses, may_take, prepare_is, prepares_on_their_way}
use Rattle.lk_healing.proofs.Elected.{begun as has_stood, leads, same_prepare}
use Rattle.lk_healing.proofs.Leads.{candidate_up, contents, leads_now, promises_there}
use Rattle.lk_healing.proofs.Stands.{may_begin_at, turn_leaves}
use Rattle.lk_healing.proofs.standing.stand.Goals as goal
use Rattle.lk_healing.specs.Polls.{HasBegun, HearsAt, StandAt}
use Rattle.lk_healing.specs.Standing.{AreThere, IsRejectionAt}

pub begin_ballot-requires : goal.begin_ballot-requires
begin_ballot-requires g c =
    may_begin_at g.M.Machine.meaning g.M.Machine.IsText c.args.world.now c.args.candidate c.args.nodes.now c.requires

pub poll-requires-clause-each : goal.poll-requires-clause-each
poll-requires-clause-each g c =
    let is : c.message_of-prepare.result ≡ record {
      cluster = c.in_ok-asking.asking.cluster;
      content = content.Node c.args.candidate
          (kinds.Prepare c.in_ok-asking.asking.ballot c.in_ok-asking.asking.first);
    } = search rules in
    prepares_on_their_way g.M.Machine.meaning g.M.Machine.IsText c.args.world.now c.begin_ballot.new.world
    c.args.candidate
    c.args.nodes.now c.in_ok-asking.asking c.requires c.in_ok-asking.ensures.ok
    c.message_of-prepare.result (prepare_is g.M.Machine.meaning g.M.Machine.IsText c.args.world.now
    c.begin_ballot.new.world c.args.candidate
    c.args.nodes.now c.in_ok-asking.asking c.requires c.in_ok-asking.ensures.ok
    c.message_of-prepare.result is)

pub rejection_among-requires : goal.rejection_among-requires
rejection_among-requires g c =
    let is : c.message_of-prepare.result ≡ record {
      cluster = c.in_ok-asking.asking.cluster;
      content = content.Node c.args.candidate
          (kinds.Prepare c.in_ok-asking.asking.ballot c.in_ok-asking.asking.first);
    } = search rules in
    let run : HearsAt g.M.Machine.meaning g.M.Machine.IsText
    (content.Node c.args.candidate (prepare_by c.in_ok-asking.ensures.ok.candidate.node)) c.args.nodes.now
    c.in_ok-places.places.items c.begin_ballot.new.world c.poll.new.world =
    subst (λ (z : Message). HearsAt g.M.Machine.meaning g.M.Machine.IsText z.content c.args.nodes.now
    c.in_ok-places.places.items c.begin_ballot.new.world c.poll.new.world)
    (prepare_is g.M.Machine.meaning g.M.Machine.IsText c.args.world.now c.begin_ballot.new.world c.args.candidate
    c.args.nodes.now c.in_ok-asking.asking c.requires c.in_ok-asking.ensures.ok
    c.message_of-prepare.result is) c.in_ok-places.ensures.ok in
    record {
      there = subst (λ (ds : List Datagram). AreThere ds c.deref.result.now) (sym c.datagrams.ensures)
          (subst (λ (ps : List ℕ). AreThere c.poll.new.world.sent ps) (sym c.deref.ensures.value)
          (are_there g.M.Machine.meaning g.M.Machine.IsText c.args.world.now c.begin_ballot.new.world c.args.candidate
          c.args.nodes.now c.in_ok-asking.asking c.requires c.in_ok-asking.ensures.ok
          c.poll.new.world c.in_ok-places.places.items run));
    }

pub deliver-requires : goal.deliver-requires
deliver-requires g c =
    let is : c.message_of-prepare.result ≡ record {
      cluster = c.in_ok-asking.asking.cluster;
      content = content.Node c.args.candidate
          (kinds.Prepare c.in_ok-asking.asking.ballot c.in_ok-asking.asking.first);
    } = search rules in
    let run : HearsAt g.M.Machine.meaning g.M.Machine.IsText
    (content.Node c.args.candidate (prepare_by c.in_ok-asking.ensures.ok.candidate.node)) c.args.nodes.now
    c.in_ok-places.places.items c.begin_ballot.new.world c.poll.new.world =
    subst (λ (z : Message). HearsAt g.M.Machine.meaning g.M.Machine.IsText z.content c.args.nodes.now
    c.in_ok-places.places.items c.begin_ballot.new.world c.poll.new.world)
    (prepare_is g.M.Machine.meaning g.M.Machine.IsText c.args.world.now c.begin_ballot.new.world c.args.candidate
    c.args.nodes.now c.in_ok-asking.asking c.requires c.in_ok-asking.ensures.ok
    c.message_of-prepare.result is) c.in_ok-places.ensures.ok in
    let found : Contains c.in_ok-places.places.items c.in-Some.place × IsRejectionAt c.poll.new.world.sent
    c.in-Some.place =
    subst (λ (ps : List ℕ). Contains ps c.in-Some.place × IsRejectionAt c.poll.new.world.sent c.in-Some.place)
    c.deref.ensures.value
    (subst (λ (ds : List Datagram). Contains c.deref.result.now c.in-Some.place × IsRejectionAt ds c.in-Some.place)
    c.datagrams.ensures c.in-Some.ensures.some) in
    may_take g.M.Machine.meaning g.M.Machine.IsText c.args.world.now c.begin_ballot.new.world c.args.candidate
    c.args.nodes.now c.in_ok-asking.asking c.requires c.in_ok-asking.ensures.ok
    c.poll.new.world c.in_ok-places.places.items run c.in-Some.place found.0 found.1

pub returns-in-Some-clause-ok : goal.returns-in-Some-clause-ok
returns-in-Some-clause-ok g c =
    let is : c.message_of-prepare.result ≡ record {
      cluster = c.in_ok-asking.asking.cluster;
      content = content.Node c.args.candidate
          (kinds.Prepare c.in_ok-asking.asking.ballot c.in_ok-asking.asking.first);
    } = search rules in
    let run : HearsAt g.M.Machine.meaning g.M.Machine.IsText
    (content.Node c.args.candidate (prepare_by c.in_ok-asking.ensures.ok.candidate.node)) c.args.nodes.now
    c.in_ok-places.places.items c.begin_ballot.new.world c.poll.new.world =
    subst (λ (z : Message). HearsAt g.M.Machine.meaning g.M.Machine.IsText z.content c.args.nodes.now
    c.in_ok-places.places.items c.begin_ballot.new.world c.poll.new.world)
    (prepare_is g.M.Machine.meaning g.M.Machine.IsText c.args.world.now c.begin_ballot.new.world c.args.candidate
    c.args.nodes.now c.in_ok-asking.asking c.requires c.in_ok-asking.ensures.ok
    c.message_of-prepare.result is) c.in_ok-places.ensures.ok in
    let found : Contains c.in_ok-places.places.items c.in-Some.place × IsRejectionAt c.poll.new.world.sent
    c.in-Some.place =
    subst (λ (ps : List ℕ). Contains ps c.in-Some.place × IsRejectionAt c.poll.new.world.sent c.in-Some.place)
    c.deref.ensures.value
    (subst (λ (ds : List Datagram). Contains c.deref.result.now c.in-Some.place × IsRejectionAt ds c.in-Some.place)
    c.datagrams.ensures c.in-Some.ensures.some) in
    loses g.M.Machine.meaning g.M.Machine.IsText c.args.world.now c.begin_ballot.new.world c.args.candidate
    c.args.nodes.now c.in_ok-asking.asking c.requires c.in_ok-asking.ensures.ok
    c.poll.new.world c.in_ok-places.places.items run c.in-Some.place found.0 found.1
    c.deliver.new.world c.in_ok-deliver-in-Some.ensures.ok

pub deliver_all-requires-clause-up : goal.deliver_all-requires-clause-up
deliver_all-requires-clause-up g c =
    let is : c.message_of-prepare.result ≡ record {
      cluster = c.in_ok-asking.asking.cluster;
      content = content.Node c.args.candidate
          (kinds.Prepare c.in_ok-asking.asking.ballot c.in_ok-asking.asking.first);
    } = search rules in
    let run : HearsAt g.M.Machine.meaning g.M.Machine.IsText
    (content.Node c.args.candidate (prepare_by c.in_ok-asking.ensures.ok.candidate.node)) c.args.nodes.now
    c.in_ok-places.places.items c.begin_ballot.new.world c.poll.new.world =
    subst (λ (z : Message). HearsAt g.M.Machine.meaning g.M.Machine.IsText z.content c.args.nodes.now
    c.in_ok-places.places.items c.begin_ballot.new.world c.poll.new.world)
    (prepare_is g.M.Machine.meaning g.M.Machine.IsText c.args.world.now c.begin_ballot.new.world c.args.candidate
    c.args.nodes.now c.in_ok-asking.asking c.requires c.in_ok-asking.ensures.ok
    c.message_of-prepare.result is) c.in_ok-places.ensures.ok in
    let none : (p : ℕ) → Contains c.in_ok-places.places.items p → IsRejectionAt c.poll.new.world.sent p → ⊥ =
    subst (λ (ps : List ℕ). (p : ℕ) → Contains ps p → IsRejectionAt c.poll.new.world.sent p → ⊥)
    c.deref.ensures.value
    (subst (λ (ds : List Datagram). (p : ℕ) → Contains c.deref.result.now p → IsRejectionAt ds p → ⊥)
    c.datagrams.ensures (c.rejection_among.ensures.none c.in-None.is)) in
    let begun : HasBegun g.M.Machine.meaning g.M.Machine.IsText c.args.candidate c.args.nodes.now c.in_ok-asking.asking
    c.begin_ballot.new.world = has_stood g.M.Machine.meaning g.M.Machine.IsText c.args.world.now
    c.begin_ballot.new.world c.args.candidate
    c.args.nodes.now c.in_ok-asking.asking c.requires c.in_ok-asking.ensures.ok
    c.poll.new.world c.in_ok-places.places.items run none in
    let polled : HearsAt g.M.Machine.meaning g.M.Machine.IsText
    (content.Node c.args.candidate (prepare_by begun.candidate.node)) c.args.nodes.now
    c.in_ok-places.places.items c.begin_ballot.new.world c.poll.new.world =
    subst (λ (y : NodeMessage). HearsAt g.M.Machine.meaning g.M.Machine.IsText (content.Node c.args.candidate y)
    c.args.nodes.now
    c.in_ok-places.places.items c.begin_ballot.new.world c.poll.new.world)
    (sym (same_prepare g.M.Machine.meaning g.M.Machine.IsText c.args.world.now c.begin_ballot.new.world c.args.candidate
    c.args.nodes.now c.in_ok-asking.asking c.requires c.in_ok-asking.ensures.ok
    c.poll.new.world c.in_ok-places.places.items run none)) run in
    candidate_up g.M.Machine.meaning g.M.Machine.IsText due_asks (prepare_has_cause g.M.Machine.meaning
    g.M.Machine.IsText)
    c.args.candidate c.args.nodes.now c.in_ok-asking.asking c.begin_ballot.new.world begun c.poll.new.world
    c.in_ok-places.places.items polled

pub deliver_all-requires-clause-stand : goal.deliver_all-requires-clause-stand
deliver_all-requires-clause-stand g c =
    let is : c.message_of-prepare.result ≡ record {
      cluster = c.in_ok-asking.asking.cluster;
      content = content.Node c.args.candidate
          (kinds.Prepare c.in_ok-asking.asking.ballot c.in_ok-asking.asking.first);
    } = search rules in
    let run : HearsAt g.M.Machine.meaning g.M.Machine.IsText
    (content.Node c.args.candidate (prepare_by c.in_ok-asking.ensures.ok.candidate.node)) c.args.nodes.now
    c.in_ok-places.places.items c.begin_ballot.new.world c.poll.new.world =
    subst (λ (z : Message). HearsAt g.M.Machine.meaning g.M.Machine.IsText z.content c.args.nodes.now
    c.in_ok-places.places.items c.begin_ballot.new.world c.poll.new.world)
    (prepare_is g.M.Machine.meaning g.M.Machine.IsText c.args.world.now c.begin_ballot.new.world c.args.candidate
    c.args.nodes.now c.in_ok-asking.asking c.requires c.in_ok-asking.ensures.ok
    c.message_of-prepare.result is) c.in_ok-places.ensures.ok in
    let none : (p : ℕ) → Contains c.in_ok-places.places.items p → IsRejectionAt c.poll.new.world.sent p → ⊥ =
    subst (λ (ps : List ℕ). (p : ℕ) → Contains ps p → IsRejectionAt c.poll.new.world.sent p → ⊥)
    c.deref.ensures.value
    (subst (λ (ds : List Datagram). (p : ℕ) → Contains c.deref.result.now p → IsRejectionAt ds p → ⊥)
    c.datagrams.ensures (c.rejection_among.ensures.none c.in-None.is)) in
    let begun : HasBegun g.M.Machine.meaning g.M.Machine.IsText c.args.candidate c.args.nodes.now c.in_ok-asking.asking
    c.begin_ballot.new.world = has_stood g.M.Machine.meaning g.M.Machine.IsText c.args.world.now
    c.begin_ballot.new.world c.args.candidate
    c.args.nodes.now c.in_ok-asking.asking c.requires c.in_ok-asking.ensures.ok
    c.poll.new.world c.in_ok-places.places.items run none in
    let polled : HearsAt g.M.Machine.meaning g.M.Machine.IsText
    (content.Node c.args.candidate (prepare_by begun.candidate.node)) c.args.nodes.now
    c.in_ok-places.places.items c.begin_ballot.new.world c.poll.new.world =
    subst (λ (y : NodeMessage). HearsAt g.M.Machine.meaning g.M.Machine.IsText (content.Node c.args.candidate y)
    c.args.nodes.now
    c.in_ok-places.places.items c.begin_ballot.new.world c.poll.new.world)
    (sym (same_prepare g.M.Machine.meaning g.M.Machine.IsText c.args.world.now c.begin_ballot.new.world c.args.candidate
    c.args.nodes.now c.in_ok-asking.asking c.requires c.in_ok-asking.ensures.ok
    c.poll.new.world c.in_ok-places.places.items run none)) run in (
      contents g.M.Machine.meaning g.M.Machine.IsText due_asks (prepare_has_cause g.M.Machine.meaning
          g.M.Machine.IsText)
          c.args.candidate c.args.nodes.now c.in_ok-asking.asking c.begin_ballot.new.world begun c.poll.new.world
          c.in_ok-places.places.items polled,
      subst (λ (ps : List ℕ). StandAt c.poll.new.world c.args.candidate ps
          (contents g.M.Machine.meaning g.M.Machine.IsText due_asks (prepare_has_cause g.M.Machine.meaning
          g.M.Machine.IsText)
          c.args.candidate c.args.nodes.now c.in_ok-asking.asking c.begin_ballot.new.world begun c.poll.new.world
          c.in_ok-places.places.items polled)) (sym c.deref-in-None.ensures.value)
          (promises_there g.M.Machine.meaning g.M.Machine.IsText due_asks (prepare_has_cause g.M.Machine.meaning
          g.M.Machine.IsText)
          c.args.candidate c.args.nodes.now c.in_ok-asking.asking c.begin_ballot.new.world begun c.poll.new.world
          c.in_ok-places.places.items polled),
    )

pub returns-clause-ok : goal.returns-clause-ok
returns-clause-ok g c =
    let is : c.message_of-prepare.result ≡ record {
      cluster = c.in_ok-asking.asking.cluster;
      content = content.Node c.args.candidate
          (kinds.Prepare c.in_ok-asking.asking.ballot c.in_ok-asking.asking.first);
    } = search rules in
    let run : HearsAt g.M.Machine.meaning g.M.Machine.IsText
    (content.Node c.args.candidate (prepare_by c.in_ok-asking.ensures.ok.candidate.node)) c.args.nodes.now
    c.in_ok-places.places.items c.begin_ballot.new.world c.poll.new.world =
    subst (λ (z : Message). HearsAt g.M.Machine.meaning g.M.Machine.IsText z.content c.args.nodes.now
    c.in_ok-places.places.items c.begin_ballot.new.world c.poll.new.world)
    (prepare_is g.M.Machine.meaning g.M.Machine.IsText c.args.world.now c.begin_ballot.new.world c.args.candidate
    c.args.nodes.now c.in_ok-asking.asking c.requires c.in_ok-asking.ensures.ok
    c.message_of-prepare.result is) c.in_ok-places.ensures.ok in
    let none : (p : ℕ) → Contains c.in_ok-places.places.items p → IsRejectionAt c.poll.new.world.sent p → ⊥ =
    subst (λ (ps : List ℕ). (p : ℕ) → Contains ps p → IsRejectionAt c.poll.new.world.sent p → ⊥)
    c.deref.ensures.value
    (subst (λ (ds : List Datagram). (p : ℕ) → Contains c.deref.result.now p → IsRejectionAt ds p → ⊥)
    c.datagrams.ensures (c.rejection_among.ensures.none c.in-None.is)) in
    let begun : HasBegun g.M.Machine.meaning g.M.Machine.IsText c.args.candidate c.args.nodes.now c.in_ok-asking.asking
    c.begin_ballot.new.world = has_stood g.M.Machine.meaning g.M.Machine.IsText c.args.world.now
    c.begin_ballot.new.world c.args.candidate
    c.args.nodes.now c.in_ok-asking.asking c.requires c.in_ok-asking.ensures.ok
    c.poll.new.world c.in_ok-places.places.items run none in
    let polled : HearsAt g.M.Machine.meaning g.M.Machine.IsText
    (content.Node c.args.candidate (prepare_by begun.candidate.node)) c.args.nodes.now
    c.in_ok-places.places.items c.begin_ballot.new.world c.poll.new.world =
    subst (λ (y : NodeMessage). HearsAt g.M.Machine.meaning g.M.Machine.IsText (content.Node c.args.candidate y)
    c.args.nodes.now
    c.in_ok-places.places.items c.begin_ballot.new.world c.poll.new.world)
    (sym (same_prepare g.M.Machine.meaning g.M.Machine.IsText c.args.world.now c.begin_ballot.new.world c.args.candidate
    c.args.nodes.now c.in_ok-asking.asking c.requires c.in_ok-asking.ensures.ok
    c.poll.new.world c.in_ok-places.places.items run none)) run in
    let turn = c.in_ok-deliver_all-in-None.ensures.ok
    (contents g.M.Machine.meaning g.M.Machine.IsText due_asks (prepare_has_cause g.M.Machine.meaning g.M.Machine.IsText)
    c.args.candidate c.args.nodes.now c.in_ok-asking.asking c.begin_ballot.new.world begun c.poll.new.world
    c.in_ok-places.places.items polled)
    (subst (λ (ps : List ℕ). StandAt c.poll.new.world c.args.candidate ps
    (contents g.M.Machine.meaning g.M.Machine.IsText due_asks (prepare_has_cause g.M.Machine.meaning g.M.Machine.IsText)
    c.args.candidate c.args.nodes.now c.in_ok-asking.asking c.begin_ballot.new.world begun c.poll.new.world
    c.in_ok-places.places.items polled)) (sym c.deref-in-None.ensures.value)
    (promises_there g.M.Machine.meaning g.M.Machine.IsText due_asks (prepare_has_cause g.M.Machine.meaning
    g.M.Machine.IsText)
    c.args.candidate c.args.nodes.now c.in_ok-asking.asking c.begin_ballot.new.world begun c.poll.new.world
    c.in_ok-places.places.items polled)) in
    leads g.M.Machine.meaning g.M.Machine.IsText c.args.world.now c.begin_ballot.new.world c.args.candidate
    c.args.nodes.now c.in_ok-asking.asking c.requires c.in_ok-asking.ensures.ok
    c.poll.new.world c.in_ok-places.places.items run none c.deliver_all.new.world
    (leads_now g.M.Machine.meaning g.M.Machine.IsText due_asks (prepare_has_cause g.M.Machine.meaning
    g.M.Machine.IsText)
    c.args.candidate c.args.nodes.now c.in_ok-asking.asking c.begin_ballot.new.world begun c.poll.new.world
    c.in_ok-places.places.items polled
    c.a_candidate_fills_in_a_world.ensures c.deliver_all.new.world turn)
    (λ n q ne up. turn_leaves g.M.Machine.meaning g.M.Machine.IsText c.args.candidate
    (contents g.M.Machine.meaning g.M.Machine.IsText due_asks (prepare_has_cause g.M.Machine.meaning g.M.Machine.IsText)
    c.args.candidate c.args.nodes.now c.in_ok-asking.asking c.begin_ballot.new.world begun c.poll.new.world
    c.in_ok-places.places.items polled) c.poll.new.world
    c.deliver_all.new.world turn n (Up q) ne up)
