-- The states that an acceptor can have, and how they change.
use Rattle.std.specs.Prelude.{ℕ, nat_lt, Contains, Option, Some, None, IsTrue, if◌then◌else◌}
use Rattle.std.specs.List.{AllByRecursion}
use Rattle.lk_types.specs.BallotValue.{BallotValue}
use Rattle.lk_types.specs.Ballots.{IsAtMost, IsBallot, is_below}
use Rattle.lk_types.specs.Ranges.{IsAlpha, IsTotal}
use Rattle.lk_types.specs.Votes.{IsVote, are_votes_above}
use Rattle.lk_types.specs.declared.entry.Entry.{Entry}
use Rattle.lk_types.specs.declared.entry.Entry.TheVariants as entry
use Rattle.lk_types.specs.declared.vote.Vote.{Vote}
use Rattle.lk_agreement_laws.specs.Acceptors.{AcceptorState}
use Rattle.lk_agreement_laws.specs.Changes.{with_promise}
use Rattle.lk_acceptor.specs.AcceptorValue.{AcceptorValue}
use Rattle.lk_store_format.specs.VoteLists.{votes_with}
use Rattle.lk_acceptor.specs.VoteLists.{votes_above}

-- the votes are above the snapshot, strictly rising by position, and none is in a ballot above the promised one
pub record IsOrdered (s : AcceptorState) : Type 0 where
  pub rising : IsTrue (are_votes_above s.snapshot_position s.votes)
  pub promised : (v : Vote) → Contains s.votes v → IsAtMost v.ballot s.promised

-- and each part is in its range
pub record IsAcceptor (a : AcceptorValue) : Type 0 where
  pub alpha : IsAlpha a.alpha
  pub promised : IsBallot a.state.promised
  pub snapshot_position : IsTotal a.state.snapshot_position
  pub votes : AllByRecursion IsVote a.state.votes
  pub kept : IsOrdered a.state

-- ---- how a state changes

-- the vote is kept in its place, and its ballot is promised
abbrev pub with_vote : AcceptorState → Vote → AcceptorState
with_vote s v = record { promised = v.ballot; votes = votes_with v s.votes; snapshot_position = s.snapshot_position }

-- a snapshot replaces the votes up to a position
abbrev pub without_votes_to : AcceptorState → ℕ → AcceptorState
without_votes_to s i = record { promised = s.promised; votes = votes_above i s.votes; snapshot_position = i }

abbrev pub with_state : AcceptorValue → AcceptorState → AcceptorValue
with_state a s = record { alpha = a.alpha; state = s }

-- ---- what a store of these entries stands for

-- the greater of two ballots
abbrev pub greater : BallotValue → BallotValue → BallotValue
greater a b = if is_below a b then b else a

-- the state that a store stands for after one more entry
abbrev pub acceptor_with : Entry → AcceptorState → AcceptorState
acceptor_with (entry.Promise b) s = with_promise s (greater s.promised b)
acceptor_with (entry.Vote v) s = record {
  promised = greater s.promised v.ballot;
  votes = if nat_lt s.snapshot_position v.position then votes_with v s.votes else s.votes;
  snapshot_position = s.snapshot_position;
}
acceptor_with (entry.Decided i c) s = s

-- with one more entry, or none
abbrev pub with_written : Option Entry → AcceptorState → AcceptorState
with_written None s = s
with_written (Some e) s = acceptor_with e s
