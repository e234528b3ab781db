-- What a client is told of a request that is not new.
use Rattle.std.proofs.Common.{◌≡◌, Option, Some, None, sym, subst}
use Rattle.lk_types.specs.declared.command.Request.{Request as RequestValue}
use Rattle.lk_messages.specs.declared.message.NodeMessage.{NodeMessage}
use Rattle.lk_state.specs.Runs.{seen_as}
use Rattle.lk_state.specs.declared.session.Session.{Session}
use Rattle.lk_state.specs.declared.whole.Seen.{Seen}
use Rattle.lk_state.specs.declared.whole.Seen.TheVariants as seen
use Rattle.lk_node_interface.specs.KeptReplies.{kept_reply}
use Rattle.lk_node_interface.specs.Outboxes.{OutboxValue}
use Rattle.lk_node_interface.proofs.ReplyLaws.{answer_same, passed_same, none_is_new}
use Rattle.lk_node.specs.Asking.{TellsClient, QueuesOrRedirects, RepliesAs}
use Rattle.lk_node.specs.NodeValue.{NodeValue}

-- a request with a reply is taken by being told it
pub told_is_taken : (x : Seen) (old new : NodeValue) (r : RequestValue) (out : OutboxValue) (reply : NodeMessage)
    → kept_reply r.client r.number x ≡ Some reply
    → TellsClient old r.client reply new out → RepliesAs x old r new out
told_is_taken seen.New old new r out reply e tells = absurd cc
told_is_taken (seen.Same a) old new r out reply e tells =
    subst (λ (m : NodeMessage). TellsClient old r.client m new out)
    (sym (answer_same r.client r.number a reply e)) tells
told_is_taken (seen.Passed last) old new r out reply e tells =
    subst (λ (m : NodeMessage). TellsClient old r.client m new out)
    (sym (passed_same r.client r.number last reply e)) tells

pub new_is_taken : (o : Option Session) (old new : NodeValue) (r : RequestValue) (out : OutboxValue)
    → kept_reply r.client r.number (seen_as o r.number) ≡ None
    → QueuesOrRedirects old.leader.term old r new out → RepliesAs (seen_as o r.number) old r new out
new_is_taken o old new r out e taken =
    subst (λ (x : Seen). RepliesAs x old r new out) (sym (none_is_new o r.client r.number e)) taken
