-- What a node holds, and what that permits it to send.
use Rattle.std.specs.Prelude.{◌≡◌, ℕ, ◌<◌, ◌≤◌, List, [], length, Contains, Option, Some, None}
use Rattle.lk_types.specs.Ballots.{zero_ballot}
use Rattle.lk_messages.specs.Grammar.{Spells}
use Rattle.lk_messages.specs.Values.{PromiseValue}
use Rattle.lk_agreement_laws.specs.declared.party.Party.TheVariants as party
use Rattle.lk_agreement_laws.specs.Ballots.{BallotValue, IsAtMost}
use Rattle.lk_agreement_laws.specs.Datagrams.{Genesis, Vote, NodeMessage, Datagram, said_by, Prepare, Promise, Accept}
use Rattle.lk_agreement_laws.specs.Datagrams.{Accepted, Decided, HasSent, WasSent}
use Rattle.lk_agreement_laws.specs.Chosen.{Command, Chosen, ChosenAt, AreChosenFrom}
use Rattle.lk_agreement_laws.specs.Soundness.{ReceivedPromise, WasPromised, Justified}
use Rattle.lk_agreement_laws.specs.Acceptors.{AcceptorState, CoversSent, AreProposed}

-- a position and its command
abbrev pub Pair : Type 0
Pair = ℕ × Command

-- a vote of the term's ballot that was heard
pub record Acceptance : Type 0 where
  pub node : ℕ
  pub position : ℕ
  pub command : Command

-- a ballot in progress: the promises that were heard, what was proposed, and who was heard to accept it
pub record Term : Type 0 where
  pub ballot : BallotValue
  pub received : List ReceivedPromise
  pub proposals : List Pair
  pub accepted : List Acceptance

abbrev pub new_term : BallotValue → Term
new_term b = record { ballot = b; received = []; proposals = []; accepted = [] }

-- an acceptor's state, the commands that were executed, decided commands of later positions, and the term, if any
pub record PaxosState : Type 0 where
  pub acceptor : AcceptorState
  pub done : List Command
  pub pairs : List Pair
  pub term : Option Term

-- nothing promised, voted for or executed
abbrev pub fresh : PaxosState
fresh = record {
  acceptor = record { promised = zero_ballot; votes = []; snapshot_position = 0 };
  done = [];
  pairs = [];
  term = None;
}

-- ---- how it fits what was sent

pub record TermFits (genesis : Genesis) (sent : List Datagram) (n : ℕ) (s : AcceptorState) (t : Term) : Type 0 where
  pub own : t.ballot.node ≡ n
  pub promised : IsAtMost t.ballot s.promised
  pub received : (r : ReceivedPromise) → Contains t.received r → WasPromised genesis sent t.ballot r
  pub accepted : (a : Acceptance) → Contains t.accepted a
      → HasSent genesis sent a.node
      (Accepted (record { position = a.position; ballot = t.ballot; command = a.command }))
  -- the proposals are all that was ever proposed in the ballot
  pub complete : (i : ℕ) (v : Command)
      → WasSent genesis sent (Accept (record { position = i; ballot = t.ballot; command = v }))
      → Contains t.proposals (i, v)
  pub one_each : (i : ℕ) (v w : Command) → Contains t.proposals (i, v) → Contains t.proposals (i, w) → v ≡ w
  pub justified : (i : ℕ) (v : Command) → Contains t.proposals (i, v) → Justified genesis sent t.ballot i v

-- everything that the node holds stems from what was sent
pub record Stems (genesis : Genesis) (sent : List Datagram) (w : PaxosState) : Type 0 where
  pub votes : AreProposed genesis sent w.acceptor
  pub done : Chosen genesis sent w.done
  -- what the snapshot replaced was executed
  pub snapshot : w.acceptor.snapshot_position ≤ length w.done
  pub pairs : (i : ℕ) (v : Command) → Contains w.pairs (i, v) → ChosenAt genesis sent i v

pub record PaxosFits (genesis : Genesis) (sent : List Datagram) (n : ℕ) (w : PaxosState) : Type 0 where
  pub covers : CoversSent genesis sent n w.acceptor
  pub stems : Stems genesis sent w
  pub term : (t : Term) → w.term ≡ Some t → TermFits genesis sent n w.acceptor t

-- ---- what it may send

-- the promise reports the votes that are kept from its first position on, and the snapshot has replaced none of these
pub record MayPromise (s : AcceptorState) (p : PromiseValue) : Type 0 where
  pub promised : s.promised ≡ p.ballot
  pub above : s.snapshot_position < p.first
  pub all : (x : Vote) → Contains s.votes x → p.first ≤ x.position → Contains p.votes x
  pub only : (x : Vote) → Contains p.votes x → Contains s.votes x

-- the message is one that the node may send in its present state
abbrev pub MaySend : Genesis → List Datagram → PaxosState → NodeMessage → Type 0
MaySend genesis sent w (Prepare b first) = IsAtMost b w.acceptor.promised
MaySend genesis sent w (Promise p) = MayPromise w.acceptor p
MaySend genesis sent w (Accept x) =
    (t : Term) × (w.term ≡ Some t) × (t.ballot ≡ x.ballot) × Contains t.proposals (x.position, x.command)
MaySend genesis sent w (Accepted x) = (w.acceptor.promised ≡ x.ballot) × Contains w.acceptor.votes x
MaySend genesis sent w (Decided d) = AreChosenFrom genesis sent d.first d.commands
MaySend genesis sent w _ = Unit {0}

-- the datagram is the node's, and spells such a message
pub record MaySendDatagram (genesis : Genesis) (sent : List Datagram) (n : ℕ) (w : PaxosState) (d : Datagram)
    : Type 0 where
  pub message : NodeMessage
  pub from : d.from ≡ party.Node n
  pub spelled : Spells (said_by genesis n message) d.bytes
  pub may : MaySend genesis sent w message

-- each of them is
abbrev pub MaySendDatagrams : Genesis → List Datagram → ℕ → PaxosState → List Datagram → Type 0
MaySendDatagrams genesis sent n w batch = (d : Datagram) → Contains batch d → MaySendDatagram genesis sent n w d
