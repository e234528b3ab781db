-- A due candidate and a majority of near nodes that take its Prepare: they make it the leader, or one of them tells it
-- why not, and it acts on that.
use Rattle.std.specs.Prelude.{◌≡◌, ◌⊎◌, ℕ, ◌+◌, ◌<◌, Some, List, map, Contains}
use Rattle.lk_types.specs.Ballots.{IsBelow}
use Rattle.lk_types.specs.declared.member.Member.{Member}
use Rattle.lk_messages.specs.Values.{PromiseValue}
use Rattle.lk_messages.specs.declared.message.NodeMessage.TheVariants as kinds
use Rattle.lk_members.specs.Majorities.{IsMajority}
use Rattle.lk_state.specs.Meanings.{Meaning}
use Rattle.lk_acceptor.specs.VoteLists.{votes_from}
use Rattle.lk_leader.specs.Proposing.{AreMembersAt, Leads}
use Rattle.lk_leader.specs.Terms.{TermValue}
use Rattle.lk_learner.specs.Learners.{executed}
use Rattle.lk_node_interface.specs.Envelopes.{EnvelopeValue}
use Rattle.lk_node_interface.specs.Outboxes.{OutboxValue}
use Rattle.lk_node.specs.Beginning.{next_ballot}
use Rattle.lk_node.specs.CatchingUp.{refusal}
use Rattle.lk_node.specs.Leading.{NothingToPropose}
use Rattle.lk_node.specs.Nearness.{AreNear}
use Rattle.lk_node.specs.NodeValue.{NodeValue}
use Rattle.lk_node.specs.Reminding.{Ticks}
use Rattle.lk_node.specs.Telling.{envelope_to}
use Rattle.lk_progress.specs.Electing.{IsDue, promises, GoesAbove}
use Rattle.lk_progress.specs.Feeding.{Asks}
use Rattle.lk_progress.specs.Hearing.{Hears, TakesEach}
use Rattle.lk_progress.specs.Rejecting.{RejectsPrepare}

-- a node of this number, before and after it takes the Prepare, and what it sends
pub record Asked : Type 0 where
  pub number : ℕ
  pub old : NodeValue
  pub new : NodeValue
  pub out : OutboxValue

-- these nodes take the candidate's Prepare, and are a majority of the set
pub record AskMajority (m : Meaning) (IsText : List ℕ → Type 0) (candidate : NodeValue) (set : List Member)
    (asked : List Asked) : Type 0 where
  pub near : (v : Asked) → Contains asked v → AreNear v.old.acceptor v.old.learner
  pub hears : (v : Asked) → Contains asked v → Hears m IsText v.old candidate.header.node
      (kinds.Prepare (next_ballot candidate) (executed candidate.learner + 1)) v.new v.out
  pub majority : IsMajority (map (λ v. v.number) asked) set

-- what the node promises, with its votes
abbrev pub promise_of : NodeValue → Asked → PromiseValue
promise_of candidate v = record {
  ballot = next_ballot candidate;
  first = executed candidate.learner + 1;
  votes = votes_from (executed candidate.learner + 1) v.old.acceptor.state.votes;
}

-- the candidate may have taken its own Prepare meanwhile: it has the same term, and its learner is the same
pub record IsStill (begun now : NodeValue) : Type 0 where
  pub term : now.leader.term ≡ begun.leader.term
  pub learner : now.learner ≡ begun.learner

-- all of them promise, and once the candidate has heard that, in their order, it leads
pub record IsElectedBy (m : Meaning) (IsText : List ℕ → Type 0) (candidate begun : NodeValue)
    (asked : List Asked) : Type 0 where
  pub told : (v : Asked) → Contains asked v
      → Contains v.out.envelopes (envelope_to v.old (kinds.Promise (promise_of candidate v)) candidate.header.node)
  pub leads : (now last : NodeValue) (envelopes : List EnvelopeValue) → IsStill begun now
      → TakesEach m IsText (promises (map (λ v. (v.number, promise_of candidate v)) asked)) now last envelopes
      → Leads last.leader last.learner.whole.roster

-- one of them rejects the ballot, and once the candidate has heard that, its next ballot is above what that node has
-- promised, which is greater, or it has asked that node, which has executed more
pub record HearsWhyNot (m : Meaning) (IsText : List ℕ → Type 0) (candidate begun : NodeValue)
    (asked : List Asked) : Type 0 where
  pub one : Asked
  pub among : Contains asked one
  pub rejects : RejectsPrepare one.old candidate.header.node (next_ballot candidate) (executed candidate.learner + 1)
      one.new one.out
  pub acts : (now last : NodeValue) (out : OutboxValue) → IsStill begun now
      → Hears m IsText now one.number (kinds.Nack (refusal (next_ballot candidate) one.old)) last out
      → GoesAbove now (refusal (next_ballot candidate) one.old) last
      × (IsBelow (next_ballot candidate) one.old.acceptor.state.promised ⊎ Asks now one.number out)

abbrev pub CandidateLeadsOrHearsWhyNot : Meaning → (List ℕ → Type 0) → Type 0
CandidateLeadsOrHearsWhyNot m IsText = (candidate begun : NodeValue) (asking : OutboxValue) (set : List Member)
    (asked : List Asked) → IsDue candidate → Ticks candidate begun asking
    → AreMembersAt candidate.learner.whole.roster (executed candidate.learner + 1) set
    → AskMajority m IsText candidate set asked
    → IsElectedBy m IsText candidate begun asked ⊎ HearsWhyNot m IsText candidate begun asked

-- ---- its own Prepare

-- A candidate that takes its own Prepare promises, and keeps its term. It has proposed what it can, as after each step.
abbrev pub OwnPrepareKeepsTerm : Meaning → (List ℕ → Type 0) → Type 0
OwnPrepareKeepsTerm m IsText = (old new : NodeValue) (t : TermValue) (from first : ℕ) (out : OutboxValue)
    → old.leader.term ≡ Some t → AreNear old.acceptor old.learner → old.acceptor.state.promised ≡ t.ballot
    → executed old.learner < first → NothingToPropose old
    → Hears m IsText old from (kinds.Prepare t.ballot first) new out → IsStill old new
