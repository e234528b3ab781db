-- Who has sent what. A history is the list of all datagrams that were ever sent, as bytes.
pub use Rattle.lk_types.specs.declared.genesis.Genesis.{Genesis}
pub use Rattle.lk_types.specs.declared.vote.Vote.{Vote}
pub use Rattle.lk_messages.specs.declared.message.NodeMessage.{NodeMessage}
pub use Rattle.lk_messages.specs.declared.message.NodeMessage.TheVariants.{Prepare, Promise, Accept, Accepted, Decided}
pub use Rattle.lk_messages.specs.declared.message.Message.{Message}
pub use Rattle.lk_agreement_laws.specs.declared.party.Party.{Party}
use Rattle.std.specs.Prelude.{◌≡◌, ℕ, List, Contains}
use Rattle.lk_messages.specs.Grammar.{Spells}
use Rattle.lk_messages.specs.declared.message.Content.TheVariants as content
use Rattle.lk_agreement_laws.specs.declared.party.Party.TheVariants as party

-- what was sent, by whom and to whom
pub record Datagram : Type 0 where
  pub from : Party
  pub to : Party
  pub bytes : List ℕ

-- the node says this, in the cluster of the genesis
abbrev pub said_by : Genesis → ℕ → NodeMessage → Message
said_by genesis n m = record { cluster = genesis.cluster; content = content.Node n m }

-- the node has sent the message: some datagram of it spells it, with the node as sender
pub record HasSent (genesis : Genesis) (sent : List Datagram) (n : ℕ) (m : NodeMessage) : Type 0 where
  pub datagram : Datagram
  pub listed : Contains sent datagram
  pub from : datagram.from ≡ party.Node n
  pub spelled : Spells (said_by genesis n m) datagram.bytes

-- some node has
pub record WasSent (genesis : Genesis) (sent : List Datagram) (m : NodeMessage) : Type 0 where
  pub sender : ℕ
  pub has_sent : HasSent genesis sent sender m
