use Rattle.std.proofs.Common.{rules, ◌≡◌, ℕ, suc, ◌+◌, ◌-◌, List, length, subst}
use Rattle.std.proofs.lemmas.Result.{on_ok_weaker}
use Rattle.lk_messages.specs.declared.message.Content.TheVariants as content
use Rattle.lk_messages.specs.declared.message.Message.{Message}
use Rattle.lk_messages.specs.declared.message.NodeMessage.TheVariants as kinds
use Rattle.lk_sim.specs.declared.event.Event.TheVariants as event
use Rattle.lk_world_progress.specs.Delivering.{Hears}
use Rattle.lk_world_progress.specs.Stepping.{GoesWell}
use Rattle.lk_healing.proofs.Exchanges.{own_up_served, was_answered}
use Rattle.lk_healing.proofs.Questions.{nack_cluster, nack_sent, own_up, want_may_be_taken}
use Rattle.lk_healing.specs.Feeds.{places_from}
use Rattle.lk_healing.specs.Halts.{MayBeTaken}
use Rattle.lk_healing.specs.Polls.{StandAt}
use Rattle.lk_healing.proofs.feeding.exchange.Goals as goal

pub hand-requires-clause-up : goal.hand-requires-clause-up
hand-requires-clause-up g c =
    own_up g.M.Machine.meaning g.M.Machine.IsText c.args.behind c.args.ahead c.args.told c.args.world.now c.requires

pub hand-requires-clause-sent : goal.hand-requires-clause-sent
hand-requires-clause-sent g c =
    nack_sent g.M.Machine.meaning g.M.Machine.IsText c.args.behind c.args.ahead c.args.told c.args.world.now
    c.requires c.message_of-nack.result (search rules)

pub hand-requires-clause-cluster : goal.hand-requires-clause-cluster
hand-requires-clause-cluster g c =
    nack_cluster g.M.Machine.meaning g.M.Machine.IsText c.args.behind c.args.ahead c.args.told c.args.world.now
    c.requires c.message_of-nack.result (search rules)

pub deliver-requires : goal.deliver-requires
deliver-requires g c =
    let is : c.message_of-nack.result ≡ record {
      cluster = c.args.told.cluster;
      content = content.Node c.args.ahead (kinds.Nack c.args.told.nack);
    } = search rules in
    let h : Hears g.M.Machine.meaning g.M.Machine.IsText c.args.behind
    (content.Node c.args.ahead (kinds.Nack c.args.told.nack)) c.args.world.now c.hand.new.world =
    subst (λ (x : Message). Hears g.M.Machine.meaning g.M.Machine.IsText c.args.behind x.content c.args.world.now
    c.hand.new.world) is c.in_ok-hand.ensures.ok in
    let place : suc (length c.args.world.now.sent) ≡ length c.datagrams.result.now + 1 = search rules in
    subst (λ (p : ℕ). MayBeTaken c.hand.new.world p) place
    (want_may_be_taken g.M.Machine.meaning g.M.Machine.IsText c.args.behind c.args.ahead c.args.told
    c.args.world.now c.requires c.hand.new.world h)

pub deliver_all-requires-clause-up : goal.deliver_all-requires-clause-up
deliver_all-requires-clause-up g c =
    let is : c.message_of-nack.result ≡ record {
      cluster = c.args.told.cluster;
      content = content.Node c.args.ahead (kinds.Nack c.args.told.nack);
    } = search rules in
    let h : Hears g.M.Machine.meaning g.M.Machine.IsText c.args.behind
    (content.Node c.args.ahead (kinds.Nack c.args.told.nack)) c.args.world.now c.hand.new.world =
    subst (λ (x : Message). Hears g.M.Machine.meaning g.M.Machine.IsText c.args.behind x.content c.args.world.now
    c.hand.new.world) is c.in_ok-hand.ensures.ok in
    let place : length c.datagrams.result.now + 1 ≡ suc (length c.args.world.now.sent) = search rules in
    own_up_served g.M.Machine.meaning g.M.Machine.IsText c.args.behind c.args.ahead c.args.told c.args.world.now
    c.requires c.hand.new.world h c.deliver.new.world
    (subst (λ (p : ℕ). GoesWell g.M.Machine.meaning g.M.Machine.IsText c.hand.new.world (event.Deliver p)
    c.deliver.new.world) place c.in_ok-deliver.ensures.ok)

pub deliver_all-requires-clause-stand : goal.deliver_all-requires-clause-stand
deliver_all-requires-clause-stand g c =
    let is : c.message_of-nack.result ≡ record {
      cluster = c.args.told.cluster;
      content = content.Node c.args.ahead (kinds.Nack c.args.told.nack);
    } = search rules in
    let h : Hears g.M.Machine.meaning g.M.Machine.IsText c.args.behind
    (content.Node c.args.ahead (kinds.Nack c.args.told.nack)) c.args.world.now c.hand.new.world =
    subst (λ (x : Message). Hears g.M.Machine.meaning g.M.Machine.IsText c.args.behind x.content c.args.world.now
    c.hand.new.world) is c.in_ok-hand.ensures.ok in
    let place : length c.datagrams.result.now + 1 ≡ suc (length c.args.world.now.sent) = search rules in
    let answered = was_answered g.M.Machine.meaning g.M.Machine.IsText c.args.behind c.args.ahead c.args.told
    c.args.world.now c.requires c.hand.new.world h c.deliver.new.world
    (subst (λ (p : ℕ). GoesWell g.M.Machine.meaning g.M.Machine.IsText c.hand.new.world (event.Deliver p)
    c.deliver.new.world) place c.in_ok-deliver.ensures.ok) c.a_node_can_be_fed.ensures in
    let places : places_from (length c.hand.new.world.sent)
    (length c.deliver.new.world.sent - length c.hand.new.world.sent) ≡ c.deref.result.now = search rules in (
      answered.contents,
      subst (λ (ps : List ℕ). StandAt c.deliver.new.world c.args.behind ps answered.contents) places answered.stand,
    )

pub returns-clause-ok : goal.returns-clause-ok
returns-clause-ok g c k =
    let is : c.message_of-nack.result ≡ record {
      cluster = c.args.told.cluster;
      content = content.Node c.args.ahead (kinds.Nack c.args.told.nack);
    } = search rules in
    let h : Hears g.M.Machine.meaning g.M.Machine.IsText c.args.behind
    (content.Node c.args.ahead (kinds.Nack c.args.told.nack)) c.args.world.now c.hand.new.world =
    subst (λ (x : Message). Hears g.M.Machine.meaning g.M.Machine.IsText c.args.behind x.content c.args.world.now
    c.hand.new.world) is c.in_ok-hand.ensures.ok in
    let place : length c.datagrams.result.now + 1 ≡ suc (length c.args.world.now.sent) = search rules in
    let answered = was_answered g.M.Machine.meaning g.M.Machine.IsText c.args.behind c.args.ahead c.args.told
    c.args.world.now k c.hand.new.world h c.deliver.new.world
    (subst (λ (p : ℕ). GoesWell g.M.Machine.meaning g.M.Machine.IsText c.hand.new.world (event.Deliver p)
    c.deliver.new.world) place c.in_ok-deliver.ensures.ok) c.a_node_can_be_fed.ensures in
    let places : places_from (length c.hand.new.world.sent)
    (length c.deliver.new.world.sent - length c.hand.new.world.sent) ≡ c.deref.result.now = search rules in
    on_ok_weaker c.deliver_all.result
    (λ turn. answered.ends c.a_lagging_candidate_is_fed.ensures c.parts_are_taken.ensures c.deliver_all.new.world turn)
    (c.deliver_all.ensures.ok answered.contents
    (subst (λ (ps : List ℕ). StandAt c.deliver.new.world c.args.behind ps answered.contents) places answered.stand))
