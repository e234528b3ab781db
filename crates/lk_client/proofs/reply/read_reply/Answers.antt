use Rattle.std.proofs.Common.{ap}
use Rattle.lk_messages.specs.declared.message.Message.{Message}
use Rattle.lk_client.specs.Replies.{reply_of}
use Rattle.lk_client.proofs.Replying.{same_said, not_asked}
use Rattle.lk_client.proofs.reply.read_reply.Goals.{in_default-content-via-in-Node+else-message-cluster}
use Rattle.lk_client.proofs.reply.read_reply.Goals.{in_default-content-via-in_default-content}
use Rattle.lk_client.proofs.reply.read_reply.Goals as goal

pub returns-in_default-clause-none : goal.returns-in_default-clause-none
returns-in_default-clause-none c none n r spells =
    c.in_default.ensures.only (reply_of c.args.cluster n c.args.request.now.client c.args.request.now.number r) spells

pub returns-in-Node-clause-none : goal.returns-in-Node-clause-none
returns-in-Node-clause-none c none n r spells =
    c.reply_in.ensures.none none r
    (same_said c.in-Ok.message c.in-Node.field-0 c.in-Node.said c.args.cluster n c.args.request.now.client
    c.args.request.now.number r
    c.in-Node.is (c.in-Ok.ensures.only
    (reply_of c.args.cluster n c.args.request.now.client c.args.request.now.number r) spells))

pub returns-in_default-content-clause-none : goal.returns-in_default-content-clause-none
returns-in_default-content-clause-none c none n r spells =
    let shows = c.in-Ok.ensures.only
    (reply_of c.args.cluster n c.args.request.now.client c.args.request.now.number r) spells in
    elim c.in_default-content.branch [
      | in_default-content-via-in-Node+else-message-cluster w ↦
          w.if-message-cluster.false (ap (λ (x : Message). x.cluster) shows)
      | in_default-content-via-in_default-content w ↦
          not_asked c.in-Ok.message w.in_default-content.field-0 c.args.cluster n c.args.request.now.client
          c.args.request.now.number r w.in_default-content.is shows
    ]
