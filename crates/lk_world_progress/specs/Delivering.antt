-- What the nodes of a world take of what is delivered, one datagram after another.
use Rattle.std.specs.Prelude.{◌≡◌, ℕ, List, [], ◌∷◌, ◌++◌, Some, Contains}
use Rattle.lk_messages.specs.Grammar.{Spells}
use Rattle.lk_messages.specs.declared.message.Content.{Content}
use Rattle.lk_messages.specs.declared.message.Content.TheVariants as content
use Rattle.lk_messages.specs.declared.message.NodeMessage.{NodeMessage}
use Rattle.lk_messages.specs.declared.message.NodeMessage.TheVariants as kinds
use Rattle.lk_agreement_laws.specs.Datagrams.{Datagram}
use Rattle.lk_agreement_laws.specs.declared.party.Party.TheVariants as party
use Rattle.lk_state.specs.Meanings.{Meaning}
use Rattle.lk_node_interface.specs.Envelopes.{EnvelopeValue, batch_of}
use Rattle.lk_progress.specs.Hearing.{TakesEach}
use Rattle.lk_recovery.specs.Compacting.{IsDue}
use Rattle.lk_replica.specs.ReplicaValue.{ReplicaValue}
use Rattle.lk_sim.specs.Refusals.{datagram_at}
use Rattle.lk_sim.specs.WorldStates.{WorldState}
use Rattle.lk_sim.specs.declared.event.Event.TheVariants as event
use Rattle.lk_sim_nodes.specs.declared.sim_node.RunState.{RunState}
use Rattle.lk_world_progress.specs.Stepping.{GoesWell, Holds, IsUpAs, Lives}

-- no rebase of the node is due
abbrev pub IsRested : WorldState ReplicaValue → ℕ → Type 0
IsRested w n = (r : ReplicaValue) → IsUpAs w n r → IsDue r.node r.store → ⊥

-- a message other than a part of a snapshot
abbrev pub IsOtherThanPart : NodeMessage → Type 0
IsOtherThanPart (kinds.Part p) = ⊥
IsOtherThanPart _ = Unit {0}

-- a client's request, or such a message: what it brings about installs no snapshot
abbrev pub InstallsNothing : Content → Type 0
InstallsNothing (content.Request r) = Unit {0}
InstallsNothing (content.Node from x) = IsOtherThanPart x

-- a datagram of the cluster with this content is delivered to the node
pub record Hears (m : Meaning) (IsText : List ℕ → Type 0) (n : ℕ) (x : Content) (old new : WorldState ReplicaValue)
    : Type 0 where
  pub place : ℕ
  pub datagram : Datagram
  pub stands : datagram_at old.sent place ≡ Some datagram
  pub bound : datagram.to ≡ party.Node n
  pub spelled : Spells (record { cluster = old.genesis.cluster; content = x }) datagram.bytes
  pub goes : GoesWell m IsText old (event.Deliver place) new

-- the same to a node that has no rebase due
pub record Delivers (m : Meaning) (IsText : List ℕ → Type 0) (n : ℕ) (x : Content) (old new : WorldState ReplicaValue)
    : Type 0 where
  pub hears : Hears m IsText n x old new
  pub rested : IsRested old n

-- these nodes are all different
abbrev pub AreDistinct : List ℕ → Type 0
AreDistinct [] = Unit {0}
AreDistinct (n ∷ ns) = (Contains ns n → ⊥) × AreDistinct ns

-- these contents are delivered to the node, one after another, and nothing else happens meanwhile
abbrev pub DeliversInTurn : Meaning → (List ℕ → Type 0) → ℕ → List Content → WorldState ReplicaValue
    → WorldState ReplicaValue
    → Type 0
DeliversInTurn m IsText n [] old new = new ≡ old
DeliversInTurn m IsText n (x ∷ xs) old new =
    (mid : WorldState ReplicaValue) × Delivers m IsText n x old mid × DeliversInTurn m IsText n xs mid new

-- the same, whether or not a rebase of the node is due
abbrev pub HearsInTurn : Meaning → (List ℕ → Type 0) → ℕ → List Content → WorldState ReplicaValue
    → WorldState ReplicaValue
    → Type 0
HearsInTurn m IsText n [] old new = new ≡ old
HearsInTurn m IsText n (x ∷ xs) old new =
    (mid : WorldState ReplicaValue) × Hears m IsText n x old mid × HearsInTurn m IsText n xs mid new

-- the content is delivered to each of these nodes, one after another, and nothing else happens meanwhile
abbrev pub HearsEach : Meaning → (List ℕ → Type 0) → Content → List ℕ → WorldState ReplicaValue
    → WorldState ReplicaValue
    → Type 0
HearsEach m IsText x [] old new = new ≡ old
HearsEach m IsText x (n ∷ ns) old new =
    (mid : WorldState ReplicaValue) × Hears m IsText n x old mid × HearsEach m IsText x ns mid new

-- the node took these contents, one after another, and what it sent joined the datagrams; every other node is unchanged
pub record TakesContents (m : Meaning) (IsText : List ℕ → Type 0) (n : ℕ) (xs : List Content) (before : ReplicaValue)
    (old new : WorldState ReplicaValue) : Type 0 where
  pub after : ReplicaValue
  pub is : IsUpAs new n after
  pub envelopes : List EnvelopeValue
  pub takes : TakesEach m IsText xs before.node after.node envelopes
  pub sent : new.sent ≡ old.sent ++ batch_of n envelopes
  pub others : (k : ℕ) (run_state : RunState ReplicaValue) → (k ≡ n → ⊥) → Lives old k run_state → Lives new k run_state
  pub genesis : new.genesis ≡ old.genesis

-- a node takes what is delivered to it, in order
abbrev pub DeliveriesAreTaken : Meaning → (List ℕ → Type 0) → Type 0
DeliveriesAreTaken m IsText = (old new : WorldState ReplicaValue) (n : ℕ) (xs : List Content) (before : ReplicaValue)
    → Holds m IsText old → IsUpAs old n before → ((x : Content) → Contains xs x → InstallsNothing x)
    → DeliversInTurn m IsText n xs old new → TakesContents m IsText n xs before old new
