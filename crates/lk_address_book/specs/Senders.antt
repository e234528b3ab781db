-- Whose address a message of the cluster makes known.
use Rattle.std.specs.Prelude.{◌≡◌, ◌≢◌, ℕ, Bool, true, false, List, [], ◌∷◌, Option, Some, None}
use Rattle.std.specs.declared.net.socket_addr.SocketAddr.{SocketAddr}
use Rattle.lk_types.specs.Ranges.{IsClient}
use Rattle.lk_messages.specs.Grammar.{Spells}
use Rattle.lk_messages.specs.declared.message.Message.{Message}
use Rattle.lk_messages.specs.declared.message.Content.{Content}
use Rattle.lk_messages.specs.declared.message.Content.TheVariants as content
use Rattle.lk_messages.specs.declared.message.NodeMessage.{NodeMessage}
use Rattle.lk_messages.specs.declared.message.NodeMessage.TheVariants as message
use Rattle.lk_probe.specs.Neighbours.{Meets}
use Rattle.lk_address_book.specs.Addresses.{AddressBook, client_at, node_at, moved_up, IsSameFilter}

-- a node that accepts this message follows its sender: a Prepare, an Accept, a Decided or a Lead
abbrev pub is_binding : NodeMessage → Bool
is_binding (message.Prepare ballot first) = true
is_binding (message.Promise p) = false
is_binding (message.Accept vote) = true
is_binding (message.Accepted vote) = false
is_binding (message.Nack n) = false
is_binding (message.Decided d) = true
is_binding (message.Want w) = false
is_binding (message.Part p) = false
is_binding (message.Answer a) = false
is_binding (message.Elsewhere e) = false
is_binding (message.Passed p) = false
is_binding (message.Lead ballot executed) = true

-- the node that sent a message of this content, if one did
abbrev pub node_in : Content → Option ℕ
node_in (content.Request r) = None
node_in (content.Node n m) = Some n

-- these bytes were sent by that node of the cluster, by what their message says; `None` if they spell no message of a
-- node of the cluster
pub record IsSentBy (cluster : ℕ) (bytes : List ℕ) (sender : Option ℕ) : Type 0 where
  pub message : (m : Message) → Spells m bytes → m.cluster ≡ cluster → sender ≡ node_in m.content
  pub other : ((m : Message) → Spells m bytes → m.cluster ≡ cluster → ⊥) → sender ≡ None

-- that client's address replaces its last one, and no other address changes
pub record RecordsClient (client : ℕ) (from : SocketAddr) (old new : AddressBook) : Type 0 where
  pub entry : client_at new client ≡ Some from
  pub others : (c : ℕ) → IsClient c → c ≢ client → client_at new c ≡ client_at old c
  pub nodes : new.nodes ≡ old.nodes
  pub neighbours : new.neighbours ≡ old.neighbours
  pub hearing : new.hearing ≡ old.hearing
  pub network : IsSameFilter old new

-- that node's address replaces its last one, no other node's changes, except for the one that is dropped if all
-- entries are taken, and no client's does; a node has written from that address, and binds this one or not
pub record RecordsNode (node : ℕ) (from : SocketAddr) (binds : Bool) (old new : AddressBook) : Type 0 where
  pub entry : node_at new node ≡ Some from
  pub moves : new.nodes ≡ moved_up old.nodes node from
  pub clients : new.clients ≡ old.clients
  pub meets : Meets from binds old.neighbours new.neighbours
  pub hearing : new.hearing ≡ old.hearing
  pub network : IsSameFilter old new

-- the address of the sender of this content is recorded
abbrev pub RecordsContentSender : Content → SocketAddr → AddressBook → AddressBook → Type 0
RecordsContentSender (content.Request r) from old new = RecordsClient r.client from old new
RecordsContentSender (content.Node n m) from old new = RecordsNode n from (is_binding m) old new

-- the sender of a message of the cluster is recorded, and nothing else changes an address
pub record RecordsSender (cluster : ℕ) (bytes : List ℕ) (from : SocketAddr) (old new : AddressBook) : Type 0 where
  pub message : (m : Message) → Spells m bytes → m.cluster ≡ cluster → RecordsContentSender m.content from old new
  pub other : ((m : Message) → Spells m bytes → m.cluster ≡ cluster → ⊥) → new ≡ old

-- the same for each of these, one after another
abbrev pub RecordsSenders : ℕ → List (SocketAddr × List ℕ) → AddressBook → AddressBook → Type 0
RecordsSenders cluster [] old new = new ≡ old
RecordsSenders cluster (c ∷ came) old new =
    (mid : AddressBook) × RecordsSender cluster c.1 c.0 old mid × RecordsSenders cluster came mid new
