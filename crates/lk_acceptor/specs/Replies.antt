-- An acceptor's responses to a Prepare and an Accept (Lamport 2001, section 2.2), what it writes before it sends them,
-- and what it holds then.
use Rattle.std.specs.Prelude.{◌≡◌, ℕ, ◌+◌, ◌*◌, ◌<◌, ◌≤◌, ◌⊎◌, Contains, Some, None}
use Rattle.lk_types.specs.BallotValue.{BallotValue}
use Rattle.lk_types.specs.Ballots.{IsBelow, IsAtMost}
use Rattle.lk_types.specs.declared.entry.Entry.TheVariants as entry
use Rattle.lk_types.specs.declared.vote.Vote.{Vote}
use Rattle.lk_messages.specs.declared.message.NodeMessage.TheVariants as message
use Rattle.lk_agreement_laws.specs.Changes.{with_promise}
use Rattle.lk_acceptor.specs.AcceptorValue.{AcceptorValue}
use Rattle.lk_acceptor.specs.States.{with_vote, with_state}
use Rattle.lk_acceptor.specs.VoteLists.{votes_from}
use Rattle.lk_acceptor.specs.declared.response.Response.{Response}

-- ---- when it grants

-- a Prepare of a ballot from a position on: the ballot is at least the promised one, the snapshot is below the
-- position, and each kept vote less than twice alpha above it
pub record GrantsPrepare (a : AcceptorValue) (b : BallotValue) (first : ℕ) : Type 0 where
  pub ballot : IsAtMost a.state.promised b
  pub above : a.state.snapshot_position < first
  pub near : (v : Vote) → Contains a.state.votes v → v.position < first + 2 * a.alpha

-- two votes of one ballot at one position have one command
abbrev pub Agrees : Vote → Vote → Type 0
Agrees v x = v.position ≡ x.position → v.ballot ≡ x.ballot → v.command ≡ x.command

-- an Accept of a vote, after e executed positions: its ballot is at least the promised one, its position is above the
-- snapshot and at most e plus twice alpha, and no vote of its ballot with another command is kept there
pub record GrantsAccept (a : AcceptorValue) (e : ℕ) (x : Vote) : Type 0 where
  pub ballot : IsAtMost a.state.promised x.ballot
  pub above : a.state.snapshot_position < x.position
  pub near : x.position ≤ e + 2 * a.alpha
  pub agree : (v : Vote) → Contains a.state.votes v → Agrees v x

-- ---- its response, what it writes and then holds

-- it promises the ballot and reports its votes from the position on; a ballot above the promised one is written
pub record Promises (a : AcceptorValue) (b : BallotValue) (first : ℕ) (r : Response)
    (new : AcceptorValue) : Type 0 where
  pub reply : r.reply ≡ message.Promise (record { ballot = b; first = first; votes = votes_from first a.state.votes })
  pub entry : (IsBelow a.state.promised b × (r.entry ≡ Some (entry.Promise b)))
      ⊎ ((a.state.promised ≡ b) × (r.entry ≡ None))
  pub state : new ≡ with_state a (with_promise a.state b)

-- it casts this vote; a vote that was not kept already is written
pub record Votes (a : AcceptorValue) (x : Vote) (r : Response) (new : AcceptorValue) : Type 0 where
  pub reply : r.reply ≡ message.Accepted x
  pub entry : (Contains a.state.votes x × (r.entry ≡ None))
      ⊎ ((Contains a.state.votes x → ⊥) × (r.entry ≡ Some (entry.Vote x)))
  pub state : new ≡ with_state a (with_vote a.state x)

-- it rejects the ballot, reports the promised one and how far it has executed, and nothing changes
pub record Refuses (a : AcceptorValue) (e : ℕ) (b : BallotValue) (r : Response) (new : AcceptorValue) : Type 0 where
  pub reply : r.reply ≡ message.Nack (record { ballot = b; promised = a.state.promised; executed = e })
  pub entry : r.entry ≡ None
  pub state : new ≡ a

-- ---- the response

abbrev pub RepliesToPrepare : AcceptorValue → ℕ → BallotValue → ℕ → Response → AcceptorValue → Type 0
RepliesToPrepare a e b first r new =
    (GrantsPrepare a b first × Promises a b first r new) ⊎ ((GrantsPrepare a b first → ⊥) × Refuses a e b r new)

abbrev pub RepliesToAccept : AcceptorValue → ℕ → Vote → Response → AcceptorValue → Type 0
RepliesToAccept a e x r new =
    (GrantsAccept a e x × Votes a x r new) ⊎ ((GrantsAccept a e x → ⊥) × Refuses a e x.ballot r new)
