-- A node takes a datagram of its cluster: what its step does by its contract, whatever bytes spell the message.
use Rattle.std.specs.Prelude.{◌≡◌, ℕ, List, [], ◌∷◌, ◌++◌}
use Rattle.lk_messages.specs.Grammar.{Spells}
use Rattle.lk_messages.specs.declared.message.Content.{Content}
use Rattle.lk_messages.specs.declared.message.Content.TheVariants as content
use Rattle.lk_messages.specs.declared.message.NodeMessage.{NodeMessage}
use Rattle.lk_state.specs.Meanings.{Meaning}
use Rattle.lk_node_interface.specs.Envelopes.{EnvelopeValue}
use Rattle.lk_node_interface.specs.Outboxes.{OutboxValue}
use Rattle.lk_node_interface.specs.declared.input.Input.TheVariants as input
use Rattle.lk_node.specs.NodeValue.{NodeValue}
use Rattle.lk_node.specs.Steps.{Steps}

-- the node takes a datagram with this content, of its cluster
pub record Takes (m : Meaning) (IsText : List ℕ → Type 0) (old : NodeValue) (x : Content) (new : NodeValue)
    (out : OutboxValue) : Type 0 where
  pub bytes : List ℕ
  pub spells : Spells (record { cluster = old.header.cluster; content = x }) bytes
  pub step : Steps m IsText old (input.Datagram bytes) new out

-- the content is this message of that node
abbrev pub Hears : Meaning → (List ℕ → Type 0) → NodeValue → ℕ → NodeMessage → NodeValue → OutboxValue → Type 0
Hears m IsText old from message new out = Takes m IsText old (content.Node from message) new out

-- it takes these one after another, and sends these envelopes
abbrev pub TakesEach : Meaning → (List ℕ → Type 0) → List Content → NodeValue → NodeValue → List EnvelopeValue → Type 0
TakesEach m IsText [] old new envelopes = (new ≡ old) × (envelopes ≡ [])
TakesEach m IsText (x ∷ xs) old new envelopes =
    (mid : NodeValue) × (out : OutboxValue) × (rest : List EnvelopeValue) × Takes m IsText old x mid out
    × TakesEach m IsText xs mid new rest × (envelopes ≡ out.envelopes ++ rest)
