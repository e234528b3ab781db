-- What a node does with a tick, a nudge or a datagram.
use Rattle.std.specs.Prelude.{◌≡◌, ℕ, ◌⊎◌, List, length, Contains}
use Rattle.lk_messages.specs.Grammar.{Spells}
use Rattle.lk_messages.specs.declared.message.Content.{Content}
use Rattle.lk_messages.specs.declared.message.Content.TheVariants as content
use Rattle.lk_messages.specs.declared.message.Message.{Message}
use Rattle.lk_messages.specs.declared.message.NodeMessage.{NodeMessage}
use Rattle.lk_messages.specs.declared.message.NodeMessage.TheVariants as kinds
use Rattle.lk_acceptor.specs.Replies.{RepliesToPrepare, RepliesToAccept}
use Rattle.lk_agreement_laws.specs.Datagrams.{HasSent}
use Rattle.lk_state.specs.Meanings.{Meaning}
use Rattle.lk_node_interface.specs.Outboxes.{OutboxValue, nothing}
use Rattle.lk_node_interface.specs.declared.input.Input.{Input}
use Rattle.lk_node_interface.specs.declared.input.Input.TheVariants as input
use Rattle.lk_node.specs.Responding.{Responds}
use Rattle.lk_node.specs.Asking.{HandlesRequest}
use Rattle.lk_node.specs.CatchingUp.{HandlesWant, HandlesNack, HandlesLead}
use Rattle.lk_node.specs.Histories.{History}
use Rattle.lk_node.specs.Leading.{HandlesPromise, ProposesOpen}
use Rattle.lk_node.specs.Deciding.{HandlesAccepted}
use Rattle.lk_node.specs.DecidedPairs.{LearnsPairs}
use Rattle.lk_node.specs.Installing.{HandlesPart}
use Rattle.lk_node.specs.NodeValue.{NodeValue}
use Rattle.lk_node.specs.Nudging.{Nudges}
use Rattle.lk_node.specs.Yielding.{with_round}
use Rattle.lk_node.specs.Reminding.{Ticks}

-- what was heard was said, and what was asked of the node was asked
abbrev pub WasHeard : History → Content → Type 0
WasHeard h (content.Request r) = Contains h.asked r
WasHeard h (content.Node from m) = HasSent h.genesis h.sent from m

-- nothing changes, and nothing follows
abbrev pub ChangesNothing : NodeValue → NodeValue → OutboxValue → Type 0
ChangesNothing old new out = (new ≡ old) × (out ≡ nothing)

-- what the node does with a message of another node, or of itself. `IsText` says which texts are those of a machine
abbrev pub HandlesNode : Meaning → (List ℕ → Type 0) → NodeValue → ℕ → NodeMessage → NodeValue → OutboxValue → Type 0
HandlesNode m IsText old from (kinds.Prepare b first) new out =
    Responds old from (RepliesToPrepare old.acceptor old.learner.whole.roster.executed b first) new out
HandlesNode m IsText old from (kinds.Accept x) new out =
    Responds (with_round x.ballot old) from (RepliesToAccept old.acceptor old.learner.whole.roster.executed x) new out
HandlesNode m IsText old from (kinds.Promise p) new out = HandlesPromise old from p new out
HandlesNode m IsText old from (kinds.Accepted x) new out = HandlesAccepted m from x old new out
HandlesNode m IsText old from (kinds.Decided d) new out =
    LearnsPairs m d.first d.commands old nothing (length d.commands) new out
HandlesNode m IsText old from (kinds.Nack k) new out = HandlesNack old from k new out
HandlesNode m IsText old from (kinds.Want w) new out = HandlesWant old from w new out
HandlesNode m IsText old from (kinds.Part p) new out = HandlesPart m IsText old p new out
HandlesNode m IsText old from (kinds.Lead b executed) new out = HandlesLead old from b executed new out
HandlesNode m IsText old from _ new out = ChangesNothing old new out

-- what it does with a message of its cluster
abbrev pub Handles : Meaning → (List ℕ → Type 0) → NodeValue → Content → NodeValue → OutboxValue → Type 0
Handles m IsText old (content.Request r) new out = HandlesRequest old r new out
Handles m IsText old (content.Node from x) new out = HandlesNode m IsText old from x new out

-- no message of the cluster is spelled like this
abbrev pub IsForeign : NodeValue → List ℕ → Type 0
IsForeign node bytes = (m : Message) → Spells m bytes → m.cluster ≡ node.header.cluster → ⊥

-- what it does with any bytes: it handles those of its cluster's messages, and ignores all others
abbrev pub HandlesBytes : Meaning → (List ℕ → Type 0) → NodeValue → List ℕ → NodeValue → OutboxValue → Type 0
HandlesBytes m IsText old bytes new out =
    ((x : Message) × Spells x bytes × (x.cluster ≡ old.header.cluster) × Handles m IsText old x.content new out)
    ⊎ (IsForeign old bytes × ChangesNothing old new out)

-- and after that it proposes everything that is open
pub record HandlesDatagram (m : Meaning) (IsText : List ℕ → Type 0) (old : NodeValue) (bytes : List ℕ) (new : NodeValue)
    (out : OutboxValue) : Type 0 where
  pub mid : NodeValue
  pub first : OutboxValue
  pub handles : HandlesBytes m IsText old bytes mid first
  pub proposes : ProposesOpen mid new first out

-- what a step is
abbrev pub Steps : Meaning → (List ℕ → Type 0) → NodeValue → Input → NodeValue → OutboxValue → Type 0
Steps m IsText old input.Tick new out = Ticks old new out
Steps m IsText old (input.Nudge reason) new out = Nudges reason old new out
Steps m IsText old (input.Datagram bytes) new out = HandlesDatagram m IsText old bytes new out
