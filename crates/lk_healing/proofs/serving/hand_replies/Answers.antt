use Rattle.std.proofs.Common.{rules, ◌≡◌, Some, length, slice_get, refl}
use Rattle.std.proofs.lemmas.Option.{slice_get_read}
use Rattle.lk_messages.specs.declared.message.Content.TheVariants as content
use Rattle.lk_messages.specs.declared.message.NodeMessage.TheVariants as kinds
use Rattle.lk_healing.proofs.Hands.{replied_one, reply_on_its_way}
use Rattle.lk_healing.proofs.Places.{contains_at}
use Rattle.lk_healing.proofs.serving.hand_replies.Goals as goal

pub hand-requires-clause-sent : goal.hand-requires-clause-sent
hand-requires-clause-sent g c =
    let at : slice_get c.args.nodes.now c.nodes.i ≡ Some c.index-nodes-i.result =
    slice_get_read c.args.nodes.now (length c.args.nodes.now) c.nodes.i c.index-nodes-i.result refl
    (search rules) (search rules) in
    let is : c.message_of-reply.result ≡ record {
      cluster = c.args.cluster;
      content = content.Node c.index-nodes-i.result (kinds.Accepted c.args.vote.now);
    } = search rules in
    reply_on_its_way c.nodes.world c.args.cluster c.index-nodes-i.result c.args.leader c.args.vote.now
    c.message_of-reply.result is c.nodes.invariant.1
    (c.nodes.invariant.3 c.index-nodes-i.result (contains_at c.args.nodes.now c.nodes.i c.index-nodes-i.result at))

pub nodes-preserved : goal.nodes-preserved
nodes-preserved g c =
    let at : slice_get c.args.nodes.now c.nodes.i ≡ Some c.index-nodes-i.result =
    slice_get_read c.args.nodes.now (length c.args.nodes.now) c.nodes.i c.index-nodes-i.result refl
    (search rules) (search rules) in
    let is : c.message_of-reply.result ≡ record {
      cluster = c.args.cluster;
      content = content.Node c.index-nodes-i.result (kinds.Accepted c.args.vote.now);
    } = search rules in
    replied_one g.M.Machine.meaning g.M.Machine.IsText c.args.cluster c.args.leader c.args.nodes.now c.args.vote.now
    c.nodes.i c.index-nodes-i.result c.message_of-reply.result c.args.world.now c.nodes.world c.hand.new.world at is
    c.nodes.invariant c.in_ok-hand.ensures.ok
