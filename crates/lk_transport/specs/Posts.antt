-- Where an envelope goes and in which form, and what a contract sees of a post with a socket.
use Rattle.std.specs.Prelude.{◌≡◌, ◌≢◌, ◌⊎◌, ◌==◌, ℕ, Bool, true, false, List, [], ◌∷◌, ◌++◌}
use Rattle.std.specs.Prelude.{Option, Some, None, MatchBool, MatchOption, IsSomeAnd}
use Rattle.std.specs.Net.Socket.{socket_ip, socket_port}
use Rattle.std.specs.declared.net.socket_addr.SocketAddr.{SocketAddr}
use Rattle.lk_disk.specs.Disk.{one_more}
use Rattle.lk_node_interface.specs.Envelopes.{EnvelopeValue}
use Rattle.lk_node_interface.specs.declared.to.To.{To}
use Rattle.lk_node_interface.specs.declared.to.To.TheVariants.{Node, Client}
use Rattle.lk_auth.specs.Clients.{client_keys}
use Rattle.lk_auth.specs.Seals.{key_list, to_node, replying, framed_by}
use Rattle.lk_auth.specs.declared.seals.Seals.{Seals}
use Rattle.lk_address_book.specs.Addresses.{AddressBook, client_at, node_at}
use Rattle.lk_address_book.specs.Hosts.{host_of}
use Rattle.lk_transport.specs.Streams.{Stream}

-- its node, the addresses, the kept envelopes of the node to itself, what the socket has sent, how many of its sends
-- have failed overall and in this group, and what the receives to come find, in order
pub record SocketPostValue : Type 0 where
  pub node : ℕ
  pub addresses : AddressBook
  pub loopback : List EnvelopeValue
  pub sent : List (SocketAddr × List ℕ)
  pub socket_failures : ℕ
  pub failures : ℕ
  pub incoming : Stream

-- what an envelope may change: the kept envelopes of the node to itself, what the socket has sent, and how many of its
-- sends have failed
pub record SendState : Type 0 where
  pub loopback : List EnvelopeValue
  pub sent : List (SocketAddr × List ℕ)
  pub failures : ℕ

abbrev pub send_state_of : SocketPostValue → SendState
send_state_of p = record { loopback = p.loopback; sent = p.sent; failures = p.socket_failures }

-- for a node: its port at its address, or, if that is not known, where it last wrote from
abbrev pub IsAddressOf : AddressBook → ℕ → ℕ → Option SocketAddr → Type 0
IsAddressOf b n port address =
    MatchOption (host_of b.hosts n) (address ≡ node_at b n)
    (λ host. IsSomeAnd address (λ a. (socket_port a ≡ port) × (socket_ip a ≡ host)))

-- for a client, where it last wrote from; for a node, where it lives, or, for port 0, where it last wrote from
abbrev pub IsRoute : AddressBook → To → Option SocketAddr → Type 0
IsRoute b (Client c) address = address ≡ client_at b c
IsRoute b (Node n port) address = MatchBool (port == 0) (address ≡ node_at b n) (IsAddressOf b n port address)

-- the form in which it is sent: sealed by the nodes' key for that node, or by the client's key; unchanged if there is
-- no key
abbrev pub frame_of : Seals → To → List ℕ → List ℕ
frame_of s (Client c) bytes = framed_by (client_keys c (key_list s.clients)) (replying s.cluster c) bytes
frame_of s (Node n port) bytes = framed_by (key_list s.nodes) (to_node s n) bytes

-- the keys under which it is sent
abbrev pub keys_for : Seals → To → List (List ℕ)
keys_for s (Client c) = client_keys c (key_list s.clients)
keys_for s (Node n port) = key_list s.nodes

-- the datagram that is sent to an address; nothing if there is none
abbrev pub carried : Option SocketAddr → List ℕ → List (SocketAddr × List ℕ)
carried None bytes = []
carried (Some address) bytes = (address, bytes) ∷ []

-- it is addressed to that node
abbrev pub IsBoundFor : ℕ → To → Type 0
IsBoundFor node (Client c) = ⊥
IsBoundFor node (Node n port) = n ≡ node

-- an envelope of the node to itself is kept after the others, and nothing is sent
pub record KeepsLoopback (node : ℕ) (l : EnvelopeValue) (old new : SendState) : Type 0 where
  pub bound : IsBoundFor node l.to
  pub loopback : new.loopback ≡ old.loopback ++ l ∷ []
  pub sent : new.sent ≡ old.sent
  pub failures : new.failures ≡ old.failures

-- its frame is sent to its destination, whole and once, if the socket reveals that, and no envelope is kept
pub record Sends (observable : Type 0) (book : AddressBook) (l : EnvelopeValue) (old new : SendState) : Type 0 where
  pub loopback : new.loopback ≡ old.loopback
  pub sent : observable → (address : Option SocketAddr) × IsRoute book l.to address
      × (new.sent ≡ old.sent ++ carried address (frame_of book.seals l.to l.bytes))
  pub failures : observable → new.failures ≡ old.failures

-- it is lost: either one more send has failed, if the socket reveals that, or its frame ran out of memory, if there is
-- a key; nothing is sent and no envelope is kept
pub record Loses (observable : Type 0) (keys : List (List ℕ)) (old new : SendState) : Type 0 where
  pub loopback : new.loopback ≡ old.loopback
  pub sent : observable → new.sent ≡ old.sent
  pub failures : observable → (new.failures ≡ one_more old.failures) ⊎ ((keys ≢ []) × (new.failures ≡ old.failures))

-- the fate of an envelope of that node with these addresses: kept, sent, or lost by a failed send
abbrev pub Becomes : Type 0 → ℕ → AddressBook → SendState → EnvelopeValue → Bool → SendState → Type 0
Becomes observable node book old l true new = KeepsLoopback node l old new ⊎ Sends observable book l old new
Becomes observable node book old l false new = Loses observable (keys_for book.seals l.to) old new

-- the same at a post, of which an envelope changes nothing else but the count of failed sends in this group
pub record CarriesEnvelope (observable : Type 0) (old : SocketPostValue) (l : EnvelopeValue) (is_sent : Bool)
    (new : SocketPostValue) : Type 0 where
  pub node : new.node ≡ old.node
  pub addresses : new.addresses ≡ old.addresses
  pub still : observable → new.incoming ≡ old.incoming
  pub becomes : Becomes observable old.node old.addresses (send_state_of old) l is_sent (send_state_of new)
