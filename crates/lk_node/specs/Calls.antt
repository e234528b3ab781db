-- The contract of a replica's call, for every history that its node fits.
use Rattle.std.specs.Prelude.{◌≡◌, ℕ, List, take, Contains, Option, Some, None}
use Rattle.lk_messages.specs.Grammar.{Spells}
use Rattle.lk_messages.specs.declared.message.NodeMessage.{NodeMessage}
use Rattle.lk_disk.specs.Disk.{Disk}
use Rattle.lk_disk.specs.declared.device.Side.{Side}
use Rattle.lk_state.specs.Meanings.{Meaning}
use Rattle.lk_agreement_laws.specs.declared.party.Party.TheVariants as party
use Rattle.lk_agreement_laws.specs.Datagrams.{said_by}
use Rattle.lk_agreement_laws.specs.Nodes.{PaxosState, MaySend}
use Rattle.lk_node_interface.specs.declared.note.Note.{Note}
use Rattle.lk_node_interface.specs.declared.input.Input.{Input}
use Rattle.lk_node_interface.specs.declared.input.Input.TheVariants.{Tick, Nudge, Datagram as Heard}
use Rattle.lk_node.specs.Histories.{History, Datagram, later, IsLawful, IsHeard}
use Rattle.lk_node.specs.BorneOut.{IsOfNode, IsBorneOut, MessageIsBorneOut}
use Rattle.lk_node.specs.Holdings.{Holding, HoldingFits}
use Rattle.lk_node.specs.Leavings.{DisksFit}

-- the bytes of an input, none at a tick or a nudge
abbrev pub heard_by : Input → Option (List ℕ)
heard_by Tick = None
heard_by (Nudge reason) = None
heard_by (Heard bytes) = Some bytes

-- a permitted input
abbrev pub InputFits : History → Input → Type 0
InputFits h Tick = Unit {0}
InputFits h (Nudge reason) = Unit {0}
InputFits h (Heard bytes) = IsHeard h bytes

-- the datagram is the node's, and spells a message that it may send in its present state, and that a chosen list bears
-- out
pub record MayGo (m : Meaning) (h : History) (n : ℕ) (w : PaxosState) (d : Datagram) : Type 0 where
  pub message : NodeMessage
  pub from : d.from ≡ party.Node n
  pub spelled : Spells (said_by h.genesis n message) d.bytes
  pub may : MaySend h.genesis h.sent w message
  pub borne_out : MessageIsBorneOut m h message

-- The node fits: the history is lawful, what it holds fits, and so does whatever a stop may leave. `Shows` says what
-- the replica holds.
pub record NodeFits (m : Meaning) (h : History) (n : ℕ) (Shows : Holding → Type 0) (disks : Side → Disk) : Type 0 where
  pub lawful : IsLawful m h
  pub holding : Holding
  pub shown : Shows holding
  pub fits : HoldingFits m h n holding
  pub left : DisksFit m h n disks

-- What a successful call leaves: a holding that fits, datagrams that the node may send in its present state, notes
-- that a chosen list bears out, and disks whose images fit with any prefix of these datagrams sent.
pub record LeavesFit (m : Meaning) (h : History) (n : ℕ) (Shows : Holding → Type 0) (disks : Side → Disk)
    (notes : List Note) (batch : List Datagram) : Type 0 where
  pub holding : Holding
  pub shown : Shows holding
  pub fits : HoldingFits m h n holding
  pub may : (d : Datagram) → Contains batch d → MayGo m h n holding.paxos d
  pub noted : (x : Note) → Contains notes x → IsOfNode x × IsBorneOut m h x
  pub left : (k : ℕ) → DisksFit m (later h (take k batch)) n disks
