-- Steps of a ballot in a world, whether or not a rebase is due: a due node's tick asks for promises, and whoever is
-- asked for a promise or a vote gives it, or tells why not.
use Rattle.std.specs.Prelude.{◌≡◌, ◌⊎◌, ℕ, true, ◌+◌, ◌*◌, ◌<◌, ◌≤◌, List, Contains}
use Rattle.lk_types.specs.BallotValue.{BallotValue}
use Rattle.lk_types.specs.Ballots.{IsBelow}
use Rattle.lk_types.specs.declared.vote.Vote.{Vote}
use Rattle.lk_messages.specs.Grammar.{spelling}
use Rattle.lk_messages.specs.declared.message.Content.TheVariants as content
use Rattle.lk_messages.specs.declared.message.NodeMessage.{NodeMessage}
use Rattle.lk_messages.specs.declared.message.NodeMessage.TheVariants as kinds
use Rattle.lk_members.specs.Ports.{is_named}
use Rattle.lk_agreement_laws.specs.Datagrams.{said_by}
use Rattle.lk_agreement_laws.specs.declared.party.Party.TheVariants as party
use Rattle.lk_state.specs.Meanings.{Meaning}
use Rattle.lk_acceptor.specs.VoteLists.{votes_from}
use Rattle.lk_learner.specs.Learners.{executed, alpha}
use Rattle.lk_node.specs.Beginning.{next_ballot}
use Rattle.lk_node.specs.CatchingUp.{refusal}
use Rattle.lk_node.specs.Nearness.{AreNear}
use Rattle.lk_node.specs.NodeValue.{NodeValue}
use Rattle.lk_node.specs.Reminding.{IsTermOf}
use Rattle.lk_progress.specs.Electing.{IsDue}
use Rattle.lk_progress.specs.Exchanges.{prepare_by}
use Rattle.lk_progress.specs.Rejecting.{AgreesWithKept}
use Rattle.lk_replica.specs.ReplicaValue.{ReplicaValue}
use Rattle.lk_sim.specs.WorldStates.{WorldState}
use Rattle.lk_sim.specs.declared.event.Event.TheVariants as event
use Rattle.lk_world_progress.specs.Delivering.{Hears}
use Rattle.lk_world_progress.specs.Stepping.{GoesWell, IsFound, IsUpAs}

-- the world's first node has sent this to the second one
abbrev pub HasSentTo : WorldState ReplicaValue → ℕ → ℕ → NodeMessage → Type 0
HasSentTo w from to x = Contains w.sent
    (record { from = party.Node from; to = party.Node to; bytes = spelling (said_by w.genesis from x) })

-- ---- a tick

-- the node has promised the next ballot of what it was and has a term of it, and has asked each node of its window for
-- a promise
pub record BeginsIn (n : ℕ) (old : NodeValue) (new : WorldState ReplicaValue) : Type 0 where
  pub after : ReplicaValue
  pub is : IsUpAs new n after
  pub term : IsTermOf (next_ballot old) after.node.leader
  pub promised : after.node.acceptor.state.promised ≡ next_ballot old
  pub asks : (k : ℕ) → 1 ≤ k → is_named k old.learner.whole.roster.sets ≡ true → HasSentTo new n k (prepare_by old)

-- a tick of a node that is due begins its next ballot
abbrev pub TickBeginsBallot : Meaning → (List ℕ → Type 0) → Type 0
TickBeginsBallot m IsText = (old new : WorldState ReplicaValue) (n : ℕ) (r : ReplicaValue) → IsUpAs old n r
    → IsDue r.node → GoesWell m IsText old (event.Tick n) new → BeginsIn n r.node new

-- ---- a Prepare

-- the node has promised, and reported its votes from the position on
abbrev pub PromisesIn : ℕ → ReplicaValue → ℕ → BallotValue → ℕ → WorldState ReplicaValue → Type 0
PromisesIn n r from b first new = (node : NodeValue) × IsFound r node
    × HasSentTo new n from (kinds.Promise (record {
      ballot = b;
      first = first;
      votes = votes_from first node.acceptor.state.votes;
    }))

-- it has rejected the ballot, and reported what it has promised and executed: one of them is why
abbrev pub RejectsPrepareIn : ℕ → ReplicaValue → ℕ → BallotValue → ℕ → WorldState ReplicaValue → Type 0
RejectsPrepareIn n r from b first new = HasSentTo new n from (kinds.Nack (refusal b r.node))
    × (IsBelow b r.node.acceptor.state.promised ⊎ (first ≤ executed r.node.learner))

abbrev pub DeliveredPrepareIsAnswered : Meaning → (List ℕ → Type 0) → Type 0
DeliveredPrepareIsAnswered m IsText = (old new : WorldState ReplicaValue) (n : ℕ) (r : ReplicaValue) (from : ℕ)
    (b : BallotValue) (first : ℕ) → IsUpAs old n r → AreNear r.node.acceptor r.node.learner
    → Hears m IsText n (content.Node from (kinds.Prepare b first)) old new
    → PromisesIn n r from b first new ⊎ RejectsPrepareIn n r from b first new

-- ---- an Accept

-- the node has rejected the vote, and reported the same: the ballot is below the promised one, or the position is
-- executed, or it is more than twice alpha ahead
abbrev pub RejectsAcceptIn : ℕ → ReplicaValue → ℕ → Vote → WorldState ReplicaValue → Type 0
RejectsAcceptIn n r from x new = HasSentTo new n from (kinds.Nack (refusal x.ballot r.node))
    × (IsBelow x.ballot r.node.acceptor.state.promised ⊎ (x.position ≤ executed r.node.learner)
    ⊎ (executed r.node.learner + 2 * alpha r.node.learner < x.position))

abbrev pub DeliveredAcceptIsAnswered : Meaning → (List ℕ → Type 0) → Type 0
DeliveredAcceptIsAnswered m IsText =
    (old new : WorldState ReplicaValue) (n : ℕ) (r : ReplicaValue) (from : ℕ) (x : Vote)
    → IsUpAs old n r → AreNear r.node.acceptor r.node.learner → AgreesWithKept r.node x
    → Hears m IsText n (content.Node from (kinds.Accept x)) old new
    → HasSentTo new n from (kinds.Accepted x) ⊎ RejectsAcceptIn n r from x new
