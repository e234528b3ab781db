use Rattle.std.proofs.Common.{rules, ◌≡◌}
use Rattle.std.proofs.lemmas.Result.{on_ok_weaker}
use Rattle.lk_types.specs.declared.vote.Vote.{Vote}
use Rattle.lk_messages.specs.declared.message.Content.TheVariants as content
use Rattle.lk_messages.specs.declared.message.NodeMessage.TheVariants as kinds
use Rattle.lk_members.specs.Effects.{Request}
use Rattle.lk_healing.proofs.Serves.{accept_is, accepts_on_their_way, answered_then, cluster_then, leader_then}
use Rattle.lk_healing.proofs.Serves.{sent_then, up_then, vote_is}
use Rattle.lk_healing.proofs.serving.serve.Goals as goal

pub hand_each-requires-clause-each : goal.hand_each-requires-clause-each
hand_each-requires-clause-each g c =
    let v : Vote = record {
      position = c.args.asking.now.first;
      ballot = c.args.asking.now.ballot;
      command = Request c.copy.result;
    } in
    let v_is : v ≡ record {
      position = c.args.asking.now.first;
      ballot = c.args.asking.now.ballot;
      command = Request c.args.request.now;
    } = (λ i. record {
      position = c.args.asking.now.first;
      ballot = c.args.asking.now.ballot;
      command = Request (c.copy.ensures i);
    }) in
    let y_is : c.message_of-accept.result ≡ record {
      cluster = c.args.asking.now.cluster;
      content = content.Node c.args.leader (kinds.Accept v);
    } = search rules in
    accepts_on_their_way g.M.Machine.meaning g.M.Machine.IsText c.a_fresh_request_is_proposed.ensures c.args.world.now
    c.propose.new.world c.args.leader c.args.nodes.now c.args.asking.now c.args.request.now c.requires
    c.in_ok-propose.ensures.ok c.message_of-accept.result
    (accept_is g.M.Machine.meaning g.M.Machine.IsText c.a_fresh_request_is_proposed.ensures c.args.world.now
    c.propose.new.world c.args.leader c.args.nodes.now c.args.asking.now c.args.request.now c.requires
    c.in_ok-propose.ensures.ok c.message_of-accept.result v
    (vote_is g.M.Machine.meaning g.M.Machine.IsText c.a_fresh_request_is_proposed.ensures c.args.world.now
    c.propose.new.world c.args.leader c.args.nodes.now c.args.asking.now c.args.request.now c.requires
    c.in_ok-propose.ensures.ok v v_is) y_is)

pub hand_replies-requires-clause-cluster : goal.hand_replies-requires-clause-cluster
hand_replies-requires-clause-cluster g c =
    let v : Vote = record {
      position = c.args.asking.now.first;
      ballot = c.args.asking.now.ballot;
      command = Request c.copy.result;
    } in
    let v_is : v ≡ record {
      position = c.args.asking.now.first;
      ballot = c.args.asking.now.ballot;
      command = Request c.args.request.now;
    } = (λ i. record {
      position = c.args.asking.now.first;
      ballot = c.args.asking.now.ballot;
      command = Request (c.copy.ensures i);
    }) in
    let y_is : c.message_of-accept.result ≡ record {
      cluster = c.args.asking.now.cluster;
      content = content.Node c.args.leader (kinds.Accept v);
    } = search rules in
    cluster_then g.M.Machine.meaning g.M.Machine.IsText c.a_fresh_request_is_proposed.ensures c.args.world.now
    c.propose.new.world c.args.leader c.args.nodes.now c.args.asking.now c.args.request.now c.requires
    c.in_ok-propose.ensures.ok c.a_near_node_accepts.ensures c.hand_each.new.world v c.message_of-accept.result v_is
    y_is c.in_ok-hand_each.ensures.ok

pub hand_replies-requires-clause-up : goal.hand_replies-requires-clause-up
hand_replies-requires-clause-up g c =
    let v : Vote = record {
      position = c.args.asking.now.first;
      ballot = c.args.asking.now.ballot;
      command = Request c.copy.result;
    } in
    let v_is : v ≡ record {
      position = c.args.asking.now.first;
      ballot = c.args.asking.now.ballot;
      command = Request c.args.request.now;
    } = (λ i. record {
      position = c.args.asking.now.first;
      ballot = c.args.asking.now.ballot;
      command = Request (c.copy.ensures i);
    }) in
    let y_is : c.message_of-accept.result ≡ record {
      cluster = c.args.asking.now.cluster;
      content = content.Node c.args.leader (kinds.Accept v);
    } = search rules in
    up_then g.M.Machine.meaning g.M.Machine.IsText c.a_fresh_request_is_proposed.ensures c.args.world.now
    c.propose.new.world c.args.leader c.args.nodes.now c.args.asking.now c.args.request.now c.requires
    c.in_ok-propose.ensures.ok c.a_near_node_accepts.ensures c.hand_each.new.world v c.message_of-accept.result v_is
    y_is c.in_ok-hand_each.ensures.ok

pub hand_replies-requires-clause-leader : goal.hand_replies-requires-clause-leader
hand_replies-requires-clause-leader g c =
    let v : Vote = record {
      position = c.args.asking.now.first;
      ballot = c.args.asking.now.ballot;
      command = Request c.copy.result;
    } in
    let v_is : v ≡ record {
      position = c.args.asking.now.first;
      ballot = c.args.asking.now.ballot;
      command = Request c.args.request.now;
    } = (λ i. record {
      position = c.args.asking.now.first;
      ballot = c.args.asking.now.ballot;
      command = Request (c.copy.ensures i);
    }) in
    let y_is : c.message_of-accept.result ≡ record {
      cluster = c.args.asking.now.cluster;
      content = content.Node c.args.leader (kinds.Accept v);
    } = search rules in
    leader_then g.M.Machine.meaning g.M.Machine.IsText c.a_fresh_request_is_proposed.ensures c.args.world.now
    c.propose.new.world c.args.leader c.args.nodes.now c.args.asking.now c.args.request.now c.requires
    c.in_ok-propose.ensures.ok c.a_near_node_accepts.ensures c.hand_each.new.world v c.message_of-accept.result v_is
    y_is c.in_ok-hand_each.ensures.ok

pub hand_replies-requires-clause-sent : goal.hand_replies-requires-clause-sent
hand_replies-requires-clause-sent g c =
    let v : Vote = record {
      position = c.args.asking.now.first;
      ballot = c.args.asking.now.ballot;
      command = Request c.copy.result;
    } in
    let v_is : v ≡ record {
      position = c.args.asking.now.first;
      ballot = c.args.asking.now.ballot;
      command = Request c.args.request.now;
    } = (λ i. record {
      position = c.args.asking.now.first;
      ballot = c.args.asking.now.ballot;
      command = Request (c.copy.ensures i);
    }) in
    let y_is : c.message_of-accept.result ≡ record {
      cluster = c.args.asking.now.cluster;
      content = content.Node c.args.leader (kinds.Accept v);
    } = search rules in
    sent_then g.M.Machine.meaning g.M.Machine.IsText c.a_fresh_request_is_proposed.ensures c.args.world.now
    c.propose.new.world c.args.leader c.args.nodes.now c.args.asking.now c.args.request.now c.requires
    c.in_ok-propose.ensures.ok c.a_near_node_accepts.ensures c.hand_each.new.world v c.message_of-accept.result v_is
    y_is c.in_ok-hand_each.ensures.ok

pub returns-clause-ok : goal.returns-clause-ok
returns-clause-ok g c k =
    let v : Vote = record {
      position = c.args.asking.now.first;
      ballot = c.args.asking.now.ballot;
      command = Request c.copy.result;
    } in
    let v_is : v ≡ record {
      position = c.args.asking.now.first;
      ballot = c.args.asking.now.ballot;
      command = Request c.args.request.now;
    } = (λ i. record {
      position = c.args.asking.now.first;
      ballot = c.args.asking.now.ballot;
      command = Request (c.copy.ensures i);
    }) in
    let y_is : c.message_of-accept.result ≡ record {
      cluster = c.args.asking.now.cluster;
      content = content.Node c.args.leader (kinds.Accept v);
    } = search rules in
    on_ok_weaker c.hand_replies.result (λ turn.
    answered_then g.M.Machine.meaning g.M.Machine.IsText c.a_fresh_request_is_proposed.ensures c.args.world.now
    c.propose.new.world c.args.leader c.args.nodes.now c.args.asking.now c.args.request.now k
    c.in_ok-propose.ensures.ok c.a_near_node_accepts.ensures c.hand_each.new.world v c.message_of-accept.result v_is
    y_is c.in_ok-hand_each.ensures.ok c.a_ready_leader_answers.ensures c.hand_replies.new.world turn)
    c.hand_replies.ensures.ok
