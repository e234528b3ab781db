-- What an acceptor holds, and which messages bind it to hold it.
use Rattle.std.specs.Prelude.{◌≡◌, ℕ, ◌≤◌, ◌⊎◌, List, Contains}
use Rattle.lk_agreement_laws.specs.Ballots.{BallotValue, IsBelow, IsAtMost}
use Rattle.lk_agreement_laws.specs.Datagrams.{Genesis, Vote, NodeMessage, Datagram, Prepare, Promise, Accept, Accepted}
use Rattle.lk_agreement_laws.specs.Datagrams.{HasSent, WasSent}

-- the greatest ballot that the node promised, voted in or began; its votes; and the position up to which its snapshot
-- has replaced them
pub record AcceptorState : Type 0 where
  pub promised : BallotValue
  pub votes : List Vote
  pub snapshot_position : ℕ

-- the votes have this one, or one for its position in a greater ballot
abbrev pub CoversVote : List Vote → Vote → Type 0
CoversVote votes x =
    (y : Vote) × Contains votes y × (y.position ≡ x.position)
    × (IsBelow x.ballot y.ballot ⊎ ((y.ballot ≡ x.ballot) × (y.command ≡ x.command)))

-- the acceptor's state holds what the message binds its sender to: the ballot is promised, and the vote is kept
abbrev pub Covers : AcceptorState → NodeMessage → Type 0
Covers s (Prepare b first) = IsAtMost b s.promised
Covers s (Promise p) = IsAtMost p.ballot s.promised
Covers s (Accept x) = IsAtMost x.ballot s.promised
Covers s (Accepted x) = IsAtMost x.ballot s.promised × ((x.position ≤ s.snapshot_position) ⊎ CoversVote s.votes x)
Covers s _ = Unit {0}

-- it covers everything that the node has sent
abbrev pub CoversSent : Genesis → List Datagram → ℕ → AcceptorState → Type 0
CoversSent genesis sent n s = (m : NodeMessage) → HasSent genesis sent n m → Covers s m

-- each vote was proposed, in a ballot that is not above the promised one
abbrev pub AreProposed : Genesis → List Datagram → AcceptorState → Type 0
AreProposed genesis sent s =
    (x : Vote) → Contains s.votes x → WasSent genesis sent (Accept x) × IsAtMost x.ballot s.promised

-- the acceptor accepts a vote: its ballot is the promised one, and only votes for its position may go
pub record AddsVote (old : AcceptorState) (x : Vote) (new : AcceptorState) : Type 0 where
  pub promised : new.promised ≡ x.ballot
  pub snapshot : new.snapshot_position ≡ old.snapshot_position
  pub kept : Contains new.votes x
  pub others : (y : Vote) → Contains old.votes y → (y.position ≡ x.position → ⊥) → Contains new.votes y
  pub only : (y : Vote) → Contains new.votes y → (y ≡ x) ⊎ Contains old.votes y

-- a snapshot at the position replaces the votes up to there
pub record ForgetsVotes (old : AcceptorState) (i : ℕ) (new : AcceptorState) : Type 0 where
  pub promised : new.promised ≡ old.promised
  pub snapshot : new.snapshot_position ≡ i
  pub later : old.snapshot_position ≤ i
  pub above : (y : Vote) → Contains old.votes y → (y.position ≤ i) ⊎ Contains new.votes y
  pub only : (y : Vote) → Contains new.votes y → Contains old.votes y
