-- Nodes and everything that was sent, whatever is delivered, lost, repeated or stopped.
use Rattle.std.specs.Prelude.{◌≡◌, ℕ, ◌≤◌, ◌⊎◌, ◌==◌, if◌then◌else◌, List, [], ◌∷◌, ◌++◌, length, Some, Contains}
use Rattle.lk_types.specs.declared.command.Request.{Request}
use Rattle.lk_messages.specs.Grammar.{Spells}
use Rattle.lk_messages.specs.declared.message.Content.TheVariants as content
use Rattle.lk_members.specs.Rosters.{members}
use Rattle.lk_members.specs.Majorities.{IsMajority}
use Rattle.lk_agreement_laws.specs.declared.party.Party.TheVariants as party
use Rattle.lk_agreement_laws.specs.Ballots.{BallotValue}
use Rattle.lk_agreement_laws.specs.Datagrams.{Genesis, Vote, Datagram, Accepted, HasSent}
use Rattle.lk_agreement_laws.specs.Chosen.{Command, command_at, Chosen}
use Rattle.lk_agreement_laws.specs.Soundness.{Sound}
use Rattle.lk_agreement_laws.specs.Nodes.{PaxosState, fresh, PaxosFits, MaySendDatagrams}
use Rattle.lk_agreement_laws.specs.Changes.{Changes}

pub record PaxosWorld : Type 0 where
  pub sent : List Datagram
  pub states : ℕ → PaxosState

-- nothing was sent, and each node is fresh
abbrev pub start : PaxosWorld
start = record { sent = []; states = λ n. fresh }

-- the world where these datagrams were sent too
abbrev pub with_sent : PaxosWorld → List Datagram → PaxosWorld
with_sent w batch = record { sent = w.sent ++ batch; states = w.states }

-- the world where one node is in another state
abbrev pub with_paxos : PaxosWorld → ℕ → PaxosState → PaxosWorld
with_paxos w n new = record { sent = w.sent; states = λ k. if k == n then new else w.states k }

-- the datagram is a client's request
pub record IsClientRequest (d : Datagram) : Type 0 where
  pub client : ℕ
  pub cluster : ℕ
  pub request : Request
  pub from : d.from ≡ party.Client client
  pub spelled : Spells (record { cluster = cluster; content = content.Request request }) d.bytes

-- a node sends some datagrams, each of which it may send; a client asks; or a node changes. Who hears what was sent,
-- how often and when, is part of the changes
pub data Happens (genesis : Genesis) : PaxosWorld → PaxosWorld → Type 0 where
  sends : {w : PaxosWorld} (n : ℕ) (batch : List Datagram) → MaySendDatagrams genesis w.sent n (w.states n) batch
      → Happens genesis w (with_sent w batch)
  asks : {w : PaxosWorld} (d : Datagram) → IsClientRequest d
      → Happens genesis w (with_sent w (d ∷ []))
  changes : {w : PaxosWorld} (n : ℕ) (new : PaxosState) → Changes genesis w.sent n (w.states n) new
      → Happens genesis w (with_paxos w n new)

-- the reachable worlds
pub data IsReachable (genesis : Genesis) : PaxosWorld → Type 0 where
  begin : IsReachable genesis start
  next : {w w' : PaxosWorld} → IsReachable genesis w → Happens genesis w w' → IsReachable genesis w'

-- what holds of each of them: the history is sound, and each node fits it
pub record WorldFits (genesis : Genesis) (w : PaxosWorld) : Type 0 where
  pub sound : Sound genesis w.sent
  pub states : (n : ℕ) → PaxosFits genesis w.sent n (w.states n)

-- the state holds the command at the position: in its snapshot, or as its vote
abbrev pub HoldsCommand : PaxosState → ℕ → Command → Type 0
HoldsCommand state i v =
    ((i ≤ state.acceptor.snapshot_position) × (command_at state.done i ≡ Some v))
    ⊎ ((x : Vote) × Contains state.acceptor.votes x × (x.position ≡ i) × (x.command ≡ v))

-- a majority of the members that the list names for the position has accepted the command there, and holds it in each
-- possible state of its nodes
pub record IsKept (genesis : Genesis) (sent : List Datagram) (L : List Command) (i : ℕ) (v : Command)
    (may_be : ℕ → PaxosState → Type 0) : Type 0 where
  pub ballot : BallotValue
  pub nodes : List ℕ
  pub majority : IsMajority nodes (members genesis L i)
  pub accepted : (n : ℕ) → Contains nodes n
      → HasSent genesis sent n (Accepted (record { position = i; ballot = ballot; command = v }))
  pub held : (n : ℕ) → Contains nodes n → (state : PaxosState) → may_be n state → HoldsCommand state i v

-- there are such worlds, and members change in them: a reachable world, and a list of two commands that is chosen in
-- it. Node 1 alone decides the first, which makes node 2 a member; both decide the second
pub record MembersChange (genesis : Genesis) (w : PaxosWorld) (L : List Command) : Type 0 where
  pub reached : IsReachable genesis w
  pub chosen : Chosen genesis w.sent L
  pub two : length L ≡ 2
  pub one_member : members genesis L 1 ≡ record { node = 1; port = 7001 } ∷ []
  pub both : members genesis L 2 ≡ record { node = 1; port = 7001 } ∷ record { node = 2; port = 7002 } ∷ []
