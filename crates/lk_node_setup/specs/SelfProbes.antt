-- The probe that a node at another port than the genesis names sends to itself.
use Rattle.std.specs.Prelude.{◌≡◌, ◌≢◌, ◌⊎◌, ◌<◌, ℕ, Bool, true, false, if◌then◌else◌, List, [], ◌∷◌, ◌++◌, length}
use Rattle.std.specs.Prelude.{Option, Some, None, MatchOption}
use Rattle.std.specs.List.{AllByRecursion}
use Rattle.std.specs.Net.Socket.{socket_ip, socket_port}
use Rattle.std.specs.declared.net.ip_addr.IpAddr.{IpAddr}
use Rattle.std.specs.declared.net.socket_addr.SocketAddr.{SocketAddr}
use Rattle.lk_disk.specs.Disk.{one_more}
use Rattle.lk_store_format.specs.Values.{HeaderValue}
use Rattle.lk_probe.specs.Grammar.{SpellsProbe}
use Rattle.lk_probe.specs.Questions.{question}
use Rattle.lk_auth.specs.Seals.{key_list, framed_by, to_node}
use Rattle.lk_auth.specs.declared.seals.Seals.{Seals}
use Rattle.lk_address_book.specs.Hosts.{host_of}
use Rattle.lk_transport.specs.Streams.{Stream, Receives, ReceivesAll, frames_in, listed}
use Rattle.lk_address_book.specs.declared.network.Network.{Network}

-- what a socket has sent, how many of its sends have failed, and what its receives are to find
pub record SocketValue : Type 0 where
  pub sent : List (SocketAddr × List ℕ)
  pub failures : ℕ
  pub incoming : Stream

-- these values of a socket, by the ghost functions of its type
abbrev pub socket_value : {S : Type 0} → (S → List (SocketAddr × List ℕ)) → (S → ℕ)
    → (S → Stream) → S → SocketValue
socket_value sent failures incoming s = record { sent = sent s; failures = failures s; incoming = incoming s }

-- ---- what comes

-- these bytes are in none of these datagrams
abbrev pub AreOthers : List ℕ → List (SocketAddr × List ℕ) → Type 0
AreOthers frame came = AllByRecursion (λ (d : SocketAddr × List ℕ). d.1 ≢ frame) came

-- a receive finds these bytes, from wherever; or it finds others, or nothing
abbrev pub ComesNext : List ℕ → Bool → Stream → Stream → Type 0
ComesNext frame true old new = (from : SocketAddr) × Receives (Some (from, frame)) old new
ComesNext frame false old new =
    (found : Option (SocketAddr × List ℕ)) × AreOthers frame (listed found) × Receives found old new

-- a receive found these bytes, after fewer receives than this that found others, or nothing; what they found is lost
pub record ComesBack (frame : List ℕ) (most : ℕ) (old new : Stream) : Type 0 where
  pub lost : List (Option (SocketAddr × List ℕ))
  pub few : length lost < most
  pub others : AreOthers frame (frames_in lost)
  pub mid : Stream
  pub earlier : ReceivesAll lost old mid
  pub from : SocketAddr
  pub came : Receives (Some (from, frame)) mid new

-- each of so many receives found others, or nothing; those are lost
pub record StaysAway (frame : List ℕ) (most : ℕ) (old new : Stream) : Type 0 where
  pub lost : List (Option (SocketAddr × List ℕ))
  pub all : length lost ≡ most
  pub others : AreOthers frame (frames_in lost)
  pub came : ReceivesAll lost old new

-- whether these bytes came back in at most this many receives
abbrev pub IsHeard : List ℕ → ℕ → Bool → Stream → Stream → Type 0
IsHeard frame most true old new = ComesBack frame most old new
IsHeard frame most false old new = StaysAway frame most old new

-- ---- the probe

-- the bytes are sent there, once and alone, and after that 30 receives tell whether they come back
pub record SendsAndHears (address : SocketAddr) (frame : List ℕ) (is_back : Bool) (old new : SocketValue) : Type 0 where
  pub sent : new.sent ≡ old.sent ++ (address, frame) ∷ []
  pub failures : new.failures ≡ old.failures
  pub heard : IsHeard frame 30 is_back old.incoming new.incoming

-- they could not be sent, and nothing is heard
pub record CannotSend (is_back : Bool) (old new : SocketValue) : Type 0 where
  pub silent : is_back ≡ false
  pub same : new ≡ record old { failures = one_more old.failures }

-- the bytes of the probe of a header's node to itself: in a frame of the nodes' key, if they have one
abbrev pub IsSelfProbe : HeaderValue → Seals → List ℕ → Type 0
IsSelfProbe header s frame =
    (bytes : List ℕ) × SpellsProbe (question header.cluster (record { node = header.node; genesis = s.genesis })) bytes
    × (frame ≡ framed_by (key_list s.nodes) (to_node s header.node) bytes)

-- the node sends that probe there, once, and tells whether it came back
abbrev pub ProbesItself : HeaderValue → Seals → SocketAddr → Bool → SocketValue → SocketValue → Type 0
ProbesItself header s address is_back old new =
    (frame : List ℕ) × IsSelfProbe header s frame
    × (SendsAndHears address frame is_back old new ⊎ CannotSend is_back old new)

-- the node sends that probe to this port of this address, and the port is unheard if it does not come back
pub record ProbesAt (header : HeaderValue) (s : Seals) (host : IpAddr) (port : ℕ) (unreached : Option ℕ)
    (old new : SocketValue) : Type 0 where
  pub address : SocketAddr
  pub at_host : socket_ip address ≡ host
  pub at_port : socket_port address ≡ port
  pub is_back : Bool
  pub probes : ProbesItself header s address is_back old new
  pub unreached_is : unreached ≡ (if is_back then None else Some port)

-- which port is not heard, of the one that the genesis names where the node listens at another: without such a port
-- none is, and where no address of the node is known that one is, and then nothing is sent and nothing lost
abbrev pub FindsUnreached : HeaderValue → Network → Option ℕ → Option ℕ → SocketValue → SocketValue → Type 0
FindsUnreached header network None unreached old new = (unreached ≡ None) × (new ≡ old)
FindsUnreached header network (Some port) unreached old new =
    MatchOption (host_of network.hosts header.node)
    ((unreached ≡ Some port) × (new ≡ old))
    (λ host. ProbesAt header network.seals host port unreached old new)
