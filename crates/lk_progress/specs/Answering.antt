-- The answer to a request that waits where it is executed.
use Rattle.std.specs.Prelude.{◌≡◌, true, Some, Contains}
use Rattle.lk_messages.specs.Grammar.{spelling}
use Rattle.lk_messages.specs.declared.message.NodeMessage.TheVariants as kinds
use Rattle.lk_members.specs.Effects.{RequestValue, Request}
use Rattle.lk_state.specs.Meanings.{Meaning}
use Rattle.lk_state.specs.Runs.{session_for}
use Rattle.lk_state.specs.Sessions.{session_of, is_new}
use Rattle.lk_leader.specs.Waits.{waiting_of}
use Rattle.lk_node_interface.specs.Envelopes.{EnvelopeValue}
use Rattle.lk_node_interface.specs.Saying.{saying}
use Rattle.lk_node_interface.specs.declared.to.To.TheVariants as to
use Rattle.lk_node_interface.specs.Outboxes.{OutboxValue}
use Rattle.lk_node.specs.Executing.{Executes}
use Rattle.lk_node.specs.NodeValue.{NodeValue}

-- the request waits at the node, and its number is above that of its client's last one
pub record WaitsFresh (node : NodeValue) (r : RequestValue) : Type 0 where
  pub waits : waiting_of r.client node.leader.waiting ≡ Some r
  pub fresh : is_new (session_of r.client node.learner.whole.sessions) r.number ≡ true

-- the envelope that answers it
abbrev pub answer_envelope : Meaning → NodeValue → RequestValue → EnvelopeValue
answer_envelope m node r = record {
  to = to.Client r.client;
  bytes = spelling (saying node.header (kinds.Answer (record {
    client = r.client;
    number = r.number;
    answer = (session_for m node.learner.whole r).answer;
  })));
}

-- the step in which a node executes a request that waits there, and is fresh, answers it
abbrev pub ExecutedRequestIsAnswered : Type 0
ExecutedRequestIsAnswered = (m : Meaning) (old new : NodeValue) (before after : OutboxValue) (r : RequestValue)
    → WaitsFresh old r → (k : Executes m old before new after) → k.command ≡ Request r
    → Contains after.envelopes (answer_envelope m old r)
