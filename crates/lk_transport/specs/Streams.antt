-- What comes to a socket: a stream of what its receives find.
use Rattle.std.specs.Prelude.{◌≡◌, ◌≤◌, ℕ, List, [], ◌∷◌, ◌++◌, length, take, Option, Some, None}
use Rattle.std.specs.declared.net.socket_addr.SocketAddr.{SocketAddr}

-- what each receive finds, one after another: a datagram, with its source and bytes, or nothing. Where the stream has
-- ended, every further receive finds nothing
abbrev pub Stream : Type 0
Stream = List (Option (SocketAddr × List ℕ))

-- a receive finds the head of the stream, and the rest is still to come. So one that finds nothing, as at a timeout,
-- says nothing about what a later one finds
abbrev pub Receives : Option (SocketAddr × List ℕ) → Stream → Stream → Type 0
Receives found [] new = (found ≡ None) × (new ≡ [])
Receives found (head ∷ later) new = (found ≡ head) × (new ≡ later)

-- what the next receive finds
abbrev pub first_of : Stream → Option (SocketAddr × List ℕ)
first_of [] = None
first_of (head ∷ later) = head

-- the same at a socket, by the ghost function of its type
abbrev pub next_of : {S : Type 0} → (S → Stream) → S → Option (SocketAddr × List ℕ)
next_of incoming s = first_of (incoming s)

-- the datagram of this length and from this source that a receive has put into a buffer, if it has: its source and its
-- own bytes
abbrev pub heard_in : List ℕ → Option (ℕ × SocketAddr) → Option (SocketAddr × List ℕ)
heard_in buffer None = None
heard_in buffer (Some l) = Some (l.1, take l.0 buffer)

-- the datagram that a receive found, if it did
abbrev pub listed : Option (SocketAddr × List ℕ) → List (SocketAddr × List ℕ)
listed None = []
listed (Some d) = d ∷ []

-- all datagrams of a stream, in order
abbrev pub frames_in : Stream → List (SocketAddr × List ℕ)
frames_in [] = []
frames_in (found ∷ more) = listed found ++ frames_in more

-- one receive after another finds these
abbrev pub ReceivesAll : List (Option (SocketAddr × List ℕ)) → Stream → Stream → Type 0
ReceivesAll [] old new = new ≡ old
ReceivesAll (found ∷ more) old new = (mid : Stream) × Receives found old mid × ReceivesAll more mid new

-- one receive found these frames: one, or none
abbrev pub ReceivesOne : List (SocketAddr × List ℕ) → Stream → Stream → Type 0
ReceivesOne frames old new =
    (found : Option (SocketAddr × List ℕ)) × (frames ≡ listed found) × Receives found old new

-- exactly these frames came, in order, in at most so many receives, of which the others found nothing
pub record ComeWithin (most : ℕ) (frames : List (SocketAddr × List ℕ)) (old new : Stream) : Type 0 where
  pub found : List (Option (SocketAddr × List ℕ))
  pub few : length found ≤ most
  pub are : frames ≡ frames_in found
  pub takes : ReceivesAll found old new
