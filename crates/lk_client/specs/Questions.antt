-- How a client sends its request, what it receives, and to whom it resends the request.
use Rattle.std.specs.Net.Socket.{socket_ip, socket_port}
use Rattle.std.specs.Prelude.{◌≡◌, ◌⊎◌, ◌+◌, ◌<◌, ◌≤◌, ℕ, nat_lt, Option, Some, None, List, [], ◌∷◌, ◌++◌, length, take}
use Rattle.std.specs.Prelude.{slice_get, if◌then◌else◌}
use Rattle.std.specs.declared.net.ip_addr.IpAddr.{IpAddr}
use Rattle.std.specs.declared.net.socket_addr.SocketAddr.{SocketAddr}
use Rattle.lk_types.specs.declared.member.Member.{Member}
use Rattle.lk_disk.specs.Disk.{one_more}
use Rattle.lk_messages.specs.Grammar.{Spells}
use Rattle.lk_messages.specs.declared.message.Content.TheVariants as content
use Rattle.lk_messages.specs.declared.message.Message.{Message}
use Rattle.lk_auth.specs.Seals.{key_list, framed_by, replied}
use Rattle.lk_auth.specs.Seals as seals
use Rattle.lk_address_book.specs.Hosts.{host_of}
use Rattle.lk_transport.specs.Chains.{Repeats}
use Rattle.lk_client.specs.Replies.{reply_of}
use Rattle.lk_client.specs.declared.destination.Destination.{Destination}
use Rattle.lk_client.specs.declared.destination.Place.{Place}
use Rattle.lk_client.specs.declared.question.Question.{Question}
use Rattle.lk_client.specs.declared.question.Heard.{Heard}
use Rattle.lk_client.specs.declared.question.Heard.TheVariants.{Nothing, Other, Reply}
use Rattle.lk_client.specs.declared.reply.Reply.{Reply as ReplyValue}
use Rattle.lk_client.specs.declared.reply.Reply.TheVariants.{Answer, Passed, Elsewhere}

-- an address, and a port of it
abbrev pub Endpoint : Type 0
Endpoint = IpAddr × ℕ

abbrev pub IsAt : Endpoint → SocketAddr → Type 0
IsAt p a = (socket_ip a ≡ p.0) × (socket_port a ≡ p.1)

-- the address that is known, or else the other one
abbrev pub known_or : Option IpAddr → IpAddr → IpAddr
known_or (Some address) other = address
known_or None other = other

-- where to ask a member: where it lives, or, if that is not known, at the address that was asked first
abbrev pub destination_address : Destination → Member → IpAddr
destination_address f m = known_or (host_of f.hosts m.node) f.address

abbrev pub destination_place : Destination → Member → Place
destination_place f m = record { address = destination_address f m; port = m.port }

-- where a question is sent first
abbrev pub own_place : Question → Place
own_place q = record { address = q.destination.address; port = q.port }

-- the message of the request
abbrev pub asking : Question → Message
asking q = record { cluster = q.cluster; content = content.Request q.request }

-- the bytes to send: those of its message, in a frame of its client if there is a key
abbrev pub IsAsked : Question → List ℕ → Type 0
IsAsked q frame = (bytes : List ℕ) × Spells (asking q) bytes
    × (frame ≡ framed_by (key_list q.destination.seals.keys)
    (seals.asking q.destination.seals.cluster q.request.client) bytes)

-- the datagram, out of its frame if there is a key, is that reply of a node of the cluster to the request
abbrev pub IsReply : Question → List ℕ → ReplyValue → Type 0
IsReply q bytes r = (node : ℕ)
    × Spells (reply_of q.cluster node q.request.client q.request.number r)
    (replied (key_list q.destination.seals.keys) q.destination.seals.cluster q.request.client bytes)

-- what the client hears if its next receive finds this: a reply if it is one to the request, or nothing
abbrev pub HearsNext : Question → Option (SocketAddr × List ℕ) → Heard → Type 0
HearsNext q next Nothing = next ≡ None
HearsNext q next Other = (d : SocketAddr × List ℕ) × (next ≡ Some d) × ((r : ReplyValue) → IsReply q d.1 r → ⊥)
HearsNext q next (Reply r) = (d : SocketAddr × List ℕ) × (next ≡ Some d) × IsReply q d.1 r

-- where the client resends the request: if it has followed fewer than 20 Elsewhere replies, to the member that this
-- one names
abbrev pub followed_to : Destination → Heard → ℕ → List Endpoint
followed_to f (Reply (Elsewhere m)) count = if nat_lt count 20 then (destination_address f m, m.port) ∷ [] else []
followed_to f (Reply (Answer a)) count = []
followed_to f (Reply (Passed last)) count = []
followed_to f Nothing count = []
followed_to f Other count = []

-- the reply with which a receive ends the exchange, if it does: an Answer or a Passed
abbrev pub ended_by : Heard → Option ReplyValue
ended_by (Reply (Elsewhere m)) = None
ended_by (Reply (Answer a)) = Some (Answer a)
ended_by (Reply (Passed last)) = Some (Passed last)
ended_by Nothing = None
ended_by Other = None

-- the bytes were sent once, to that endpoint, or a send failed, which is counted, and nothing was sent
abbrev pub SendsOnce : Endpoint → List ℕ → List (SocketAddr × List ℕ) → ℕ → List (SocketAddr × List ℕ) → ℕ → Type 0
SendsOnce endpoint bytes old failures new failures_new =
    ((to : SocketAddr) × IsAt endpoint to × (new ≡ old ++ (to, bytes) ∷ []) × (failures_new ≡ failures))
    ⊎ ((new ≡ old) × (failures_new ≡ one_more failures))

-- the bytes were sent to each of these endpoints in turn, as above, and nothing else was sent
abbrev pub SendsEach : List Endpoint → List ℕ → List (SocketAddr × List ℕ) → ℕ → List (SocketAddr × List ℕ) → ℕ → Type 0
SendsEach [] bytes old failures new failures_new = (new ≡ old) × (failures_new ≡ failures)
SendsEach (endpoint ∷ endpoints) bytes old failures new failures_new =
    (mid : List (SocketAddr × List ℕ)) × (failures_mid : ℕ) × SendsOnce endpoint bytes old failures mid failures_mid
    × SendsEach endpoints bytes mid failures_mid new failures_new

-- the reply is an Answer or a Passed, which tells the fate of the request
abbrev pub IsFinal : ReplyValue → Type 0
IsFinal (Answer a) = Unit {0}
IsFinal (Passed last) = Unit {0}
IsFinal (Elsewhere m) = ⊥

-- a client that has sent its request: its socket, and how many Elsewhere replies it has followed
pub record Asker (S : Type 0) : Type 0 where
  pub socket : S
  pub followed : ℕ

-- what a kind of socket has sent, how many of its sends have failed, and what its next receive finds; and the question
-- of a client at such a socket
module _ {S : Type 0} (sent : S → List (SocketAddr × List ℕ)) (failures : S → ℕ)
    (next : S → Option (SocketAddr × List ℕ)) (q : Question) where
  -- the client receives once, and returns the reply if that ends the exchange; for an Elsewhere to follow, the bytes go
  -- to the member named there, and nothing else is sent
  pub record Receives (bytes : List ℕ) (told : Option ReplyValue) (old new : Asker S) : Type 0 where
    pub heard : Heard
    pub hears : HearsNext q (next old.socket) heard
    pub tells : told ≡ ended_by heard
    pub follows : new.followed ≡ old.followed + length (followed_to q.destination heard old.followed)
    pub sends : SendsEach (followed_to q.destination heard old.followed) bytes (sent old.socket) (failures old.socket)
        (sent new.socket) (failures new.socket)

  -- with `None`, as many receives as `most` brought no reply; or else fewer did, and the next one brought this reply
  abbrev pub WaitsFor : ℕ → List ℕ → Option ReplyValue → Asker S → Asker S → Type 0
  WaitsFor most bytes None old new = Repeats (Receives bytes None) most old new
  WaitsFor most bytes (Some reply) old new =
      (count : ℕ) × (count < most) × (last : Asker S) × Repeats (Receives bytes None) count old last
      × Receives bytes (Some reply) last new

  -- the bytes went to this place, and then the client waited for at most so many receives
  pub record Tries (most : ℕ) (place : Place) (bytes : List ℕ) (told : Option ReplyValue)
      (old new : Asker S) : Type 0 where
    pub asked_on : S
    pub asks : SendsOnce (place.address, place.port) bytes (sent old.socket) (failures old.socket)
        (sent asked_on) (failures asked_on)
    pub waits : WaitsFor most bytes told (record { socket = asked_on; followed = old.followed }) new

  -- the client tried each of these places in turn, and none brought a reply
  abbrev pub TriesInVain : ℕ → List Place → List ℕ → Asker S → Asker S → Type 0
  TriesInVain most [] bytes old new = new ≡ old
  TriesInVain most (place ∷ places) bytes old new =
      (mid : Asker S) × Tries most place bytes None old mid × TriesInVain most places bytes mid new

  -- the client tried all of these places in vain, or each in turn until one brought this reply
  abbrev pub TriesUntil : ℕ → List Place → List ℕ → Option ReplyValue → Asker S → Asker S → Type 0
  TriesUntil most places bytes None old new = TriesInVain most places bytes old new
  TriesUntil most places bytes (Some reply) old new =
      (count : ℕ) × (place : Place) × (slice_get places count ≡ Some place) × (last : Asker S)
      × TriesInVain most (take count places) bytes old last
      × Tries most place bytes (Some reply) last new

  -- the bytes of the question went to these places, one after another, until a reply came, and beyond them to the
  -- members that at most 20 Elsewhere replies name
  pub record Exchanges (most : ℕ) (places : List Place) (told : Option ReplyValue) (old new : S) : Type 0 where
    pub bytes : List ℕ
    pub spelled : IsAsked q bytes
    pub followed : ℕ
    pub few : followed ≤ 20
    pub tries : TriesUntil most places bytes told (record { socket = old; followed = 0 })
        (record { socket = new; followed = followed })
