-- What a node replies as an acceptor, and why it rejects. Its reply removes each cause: the candidate's next ballot is
-- above a greater one that it hears of, and of two nodes that have executed unequally much, the one that is behind is
-- sent what it lacks.
use Rattle.std.specs.Prelude.{◌≡◌, ◌⊎◌, ℕ, ◌+◌, ◌*◌, ◌<◌, ◌≤◌, List, Contains}
use Rattle.lk_types.specs.BallotValue.{BallotValue}
use Rattle.lk_types.specs.Ballots.{IsBelow}
use Rattle.lk_types.specs.declared.vote.Vote.{Vote}
use Rattle.lk_messages.specs.declared.message.NodeMessage.TheVariants as kinds
use Rattle.lk_agreement_laws.specs.Changes.{with_promise}
use Rattle.lk_acceptor.specs.Replies.{Agrees}
use Rattle.lk_acceptor.specs.States.{with_state, with_vote}
use Rattle.lk_acceptor.specs.VoteLists.{votes_from}
use Rattle.lk_learner.specs.Learners.{executed, alpha}
use Rattle.lk_state.specs.Meanings.{Meaning}
use Rattle.lk_node_interface.specs.Outboxes.{OutboxValue}
use Rattle.lk_node.specs.CatchingUp.{refusal}
use Rattle.lk_node.specs.Nearness.{AreNear}
use Rattle.lk_node.specs.NodeValue.{NodeValue}
use Rattle.lk_node.specs.Telling.{envelope_to}
use Rattle.lk_progress.specs.Hearing.{Hears}

-- ---- a Prepare

-- the node promises the ballot, and reports its votes from the position on
pub record Promises (old : NodeValue) (from : ℕ) (b : BallotValue) (first : ℕ) (new : NodeValue)
    (out : OutboxValue) : Type 0 where
  pub acceptor : new.acceptor ≡ with_state old.acceptor (with_promise old.acceptor.state b)
  pub learner : new.learner ≡ old.learner
  pub told : Contains out.envelopes
      (envelope_to old (kinds.Promise
      (record { ballot = b; first = first; votes = votes_from first old.acceptor.state.votes })) from)

-- it rejects the ballot, and reports what it has promised and how many positions it has executed: one of them is why
pub record RejectsPrepare (old : NodeValue) (from : ℕ) (b : BallotValue) (first : ℕ) (new : NodeValue)
    (out : OutboxValue) : Type 0 where
  pub acceptor : new.acceptor ≡ old.acceptor
  pub told : Contains out.envelopes (envelope_to old (kinds.Nack (refusal b old)) from)
  pub why : IsBelow b old.acceptor.state.promised ⊎ (first ≤ executed old.learner)

-- A node promises a ballot, unless it has promised a greater one or has executed the position that the candidate asks
-- from.
abbrev pub PrepareIsPromisedOrRejected : Meaning → (List ℕ → Type 0) → Type 0
PrepareIsPromisedOrRejected m IsText = (old new : NodeValue) (from : ℕ) (b : BallotValue) (first : ℕ)
    (out : OutboxValue) → AreNear old.acceptor old.learner → Hears m IsText old from (kinds.Prepare b first) new out
    → Promises old from b first new out ⊎ RejectsPrepare old from b first new out

-- ---- an Accept

-- the node casts the vote
pub record Accepts (old : NodeValue) (from : ℕ) (x : Vote) (new : NodeValue) (out : OutboxValue) : Type 0 where
  pub acceptor : new.acceptor ≡ with_state old.acceptor (with_vote old.acceptor.state x)
  pub learner : new.learner ≡ old.learner
  pub told : Contains out.envelopes (envelope_to old (kinds.Accepted x) from)

-- it rejects the vote, and reports the same: the ballot is below the promised one, or the position is executed, or it
-- is more than twice alpha ahead
pub record RejectsAccept (old : NodeValue) (from : ℕ) (x : Vote) (new : NodeValue) (out : OutboxValue) : Type 0 where
  pub acceptor : new.acceptor ≡ old.acceptor
  pub told : Contains out.envelopes (envelope_to old (kinds.Nack (refusal x.ballot old)) from)
  pub why : IsBelow x.ballot old.acceptor.state.promised ⊎ (x.position ≤ executed old.learner)
      ⊎ (executed old.learner + 2 * alpha old.learner < x.position)

-- No vote of the same ballot for another command is kept at the position. It is so in a sound history.
abbrev pub AgreesWithKept : NodeValue → Vote → Type 0
AgreesWithKept node x = (v : Vote) → Contains node.acceptor.state.votes v → Agrees v x

-- A node accepts a command, unless it has promised a greater ballot, has executed the position, or is too far behind.
abbrev pub AcceptIsAcceptedOrRejected : Meaning → (List ℕ → Type 0) → Type 0
AcceptIsAcceptedOrRejected m IsText = (old new : NodeValue) (from : ℕ) (x : Vote) (out : OutboxValue)
    → AreNear old.acceptor old.learner → AgreesWithKept old x → Hears m IsText old from (kinds.Accept x) new out
    → Accepts old from x new out ⊎ RejectsAccept old from x new out
