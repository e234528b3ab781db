-- How a node helps one that has executed less, and asks one that has executed more.
use Rattle.std.specs.Prelude.{◌≡◌, ◌⊎◌, ℕ, ◌+◌, ◌<◌, ◌≤◌, true, false, Some, List, map, Contains}
use Rattle.lk_types.specs.BallotValue.{BallotValue}
use Rattle.lk_types.specs.Ballots.{is_below}
use Rattle.lk_types.specs.Limits.{max_count}
use Rattle.lk_messages.specs.Grammar.{IsMessage}
use Rattle.lk_messages.specs.Values.{WantValue, PartValue}
use Rattle.lk_messages.specs.declared.message.Nack.{Nack}
use Rattle.lk_messages.specs.declared.message.NodeMessage.TheVariants as kinds
use Rattle.lk_learner.specs.Learners.{executed, IsRetained, decided_from, wanted}
use Rattle.lk_learner.specs.Parts.{start_of, AreParts}
use Rattle.lk_node_interface.specs.Outboxes.{OutboxValue, nothing, with_envelopes}
use Rattle.lk_node_interface.specs.Saying.{saying}
use Rattle.lk_node.specs.NodeValue.{NodeValue}
use Rattle.lk_node.specs.Replying.{SaysAlone}
use Rattle.lk_node.specs.Saying.{to_node}
use Rattle.lk_node.specs.Telling.{envelope_to}
use Rattle.lk_node.specs.Yielding.{seeing}

-- the other node is sent these parts of a snapshot, in order
abbrev pub sending_parts : NodeValue → ℕ → List PartValue → OutboxValue → OutboxValue
sending_parts node other parts out = with_envelopes (map (λ p. envelope_to node (kinds.Part p) other) parts) out

-- it is sent the snapshot's text from the offset on, or from its start if the offset is not below its length
pub record FeedsParts (node : NodeValue) (other offset : ℕ) (out : OutboxValue) : Type 0 where
  pub parts : List PartValue
  pub are : AreParts node.learner.snapshot_position node.learner.snapshot (start_of offset node.learner.snapshot) parts
  pub fits : (p : PartValue) → Contains parts p → IsMessage (saying node.header (kinds.Part p))
  pub comes_to : out ≡ sending_parts node other parts nothing

-- the other node is sent what is served from the position on: commands if it is above the snapshot and executed, the
-- snapshot from the offset on if the snapshot has replaced it, and nothing if it is not executed
abbrev pub Feeds : NodeValue → ℕ → ℕ → ℕ → OutboxValue → Type 0
Feeds node other first offset out =
    (IsRetained node.learner first
    × SaysAlone node (to_node node other) (kinds.Decided (decided_from first node.learner)) out)
    ⊎ ((first ≤ node.learner.snapshot_position) × FeedsParts node other offset out)
    ⊎ ((executed node.learner < first) × (out ≡ nothing))

-- a node wants commands from a position on, or a snapshot from an offset on
abbrev pub HandlesWant : NodeValue → ℕ → WantValue → NodeValue → OutboxValue → Type 0
HandlesWant old from want new out = (new ≡ old) × Feeds old from want.first want.offset out

-- the other node is asked for what follows the executed positions, unless these are all 2^48
abbrev pub AsksOn : NodeValue → ℕ → OutboxValue → Type 0
AsksOn node other out =
    ((executed node.learner < max_count) × SaysAlone node (to_node node other) (kinds.Want (wanted node.learner)) out)
    ⊎ ((executed node.learner ≡ max_count) × (out ≡ nothing))

-- ---- a rejection

-- if the other node has executed more positions than this node, it is asked for the rest; if fewer, it is sent what it
-- lacks
abbrev pub ClosesGap : NodeValue → ℕ → ℕ → OutboxValue → Type 0
ClosesGap node other theirs out =
    ((executed node.learner < theirs) × AsksOn node other out)
    ⊎ ((theirs < executed node.learner) × Feeds node other (theirs + 1) 0 out)
    ⊎ ((theirs ≡ executed node.learner) × (out ≡ nothing))

-- both ballots are recorded
abbrev pub HandlesNack : NodeValue → ℕ → Nack → NodeValue → OutboxValue → Type 0
HandlesNack old from nack new out =
    (new ≡ seeing nack.promised (seeing nack.ballot old)) × ClosesGap old from nack.executed out

-- ---- a leader's notice

-- the ballot's node is the known leader, and ticks count from the start
abbrev pub following : BallotValue → NodeValue → NodeValue
following b node = record node { ticks = 0; known = Some b.node }

-- the other node is asked if it has executed more
abbrev pub AsksWhereMore : NodeValue → ℕ → ℕ → OutboxValue → Type 0
AsksWhereMore node other theirs out =
    ((executed node.learner < theirs) × AsksOn node other out) ⊎ ((theirs ≤ executed node.learner) × (out ≡ nothing))

-- the reply to a smaller ballot: the promised one, and how many positions are executed
abbrev pub refusal : BallotValue → NodeValue → Nack
refusal b node = record { ballot = b; promised = node.acceptor.state.promised; executed = executed node.learner }

-- A notice of a ballot below the promised one is rejected. Any other is followed. Its ballot is recorded in either
-- case.
abbrev pub HandlesLead : NodeValue → ℕ → BallotValue → ℕ → NodeValue → OutboxValue → Type 0
HandlesLead old from b theirs new out =
    ((is_below b old.acceptor.state.promised ≡ true) × (new ≡ seeing b old)
    × SaysAlone old (to_node old from) (kinds.Nack (refusal b old)) out)
    ⊎ ((is_below b old.acceptor.state.promised ≡ false) × (new ≡ following b (seeing b old))
    × AsksWhereMore old from theirs out)
