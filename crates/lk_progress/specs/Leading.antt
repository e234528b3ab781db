-- An elected leader does not wait: if there is anything to propose at its next position, it has proposed something
-- there after each step.
use Rattle.std.specs.Prelude.{◌≡◌, ◌⊎◌, ◌+◌, ◌<◌, ◌||◌, Some, List, [], Contains, IsTrue}
use Rattle.lk_types.specs.Limits.{max_count}
use Rattle.lk_types.specs.declared.member.Member.{Member}
use Rattle.lk_members.specs.Effects.{RequestValue, Request}
use Rattle.lk_members.specs.Majorities.{IsMajority}
use Rattle.lk_leader.specs.Proposing.{AreMembersAt, promisers}
use Rattle.lk_leader.specs.Terms.{ProposalValue, TermValue, proposal_at}
use Rattle.lk_leader.specs.Values.{promised_at, received_at, IsUnderWay, has_vote_from, is_changing_at}
use Rattle.lk_learner.specs.Learners.{executed}
use Rattle.lk_node.specs.Leading.{NothingToPropose}
use Rattle.lk_node.specs.NodeValue.{NodeValue}

-- a promise of a member reports a vote at the next position, or a request waits that is not under way, or a promise
-- reports a vote there or after it, or the last change of members is not in effect there
abbrev pub HasWork : NodeValue → TermValue → List Member → Type 0
HasWork node t set =
    (promised_at (executed node.learner + 1) (received_at set (executed node.learner + 1) t.received) ≡ [] → ⊥)
    ⊎ ((q : RequestValue) × Contains node.leader.waiting q
    × (IsUnderWay (executed node.learner) t.proposals (Request q) → ⊥))
    ⊎ IsTrue
    (has_vote_from t.received (executed node.learner + 1)
    || is_changing_at node.learner.whole.roster (executed node.learner + 1))

-- the node leads in this term: the set is that of its next position, a majority of it has promised, and a position is
-- left
pub record IsLeading (node : NodeValue) (t : TermValue) (set : List Member) : Type 0 where
  pub current : node.leader.term ≡ Some t
  pub members : AreMembersAt node.learner.whole.roster (executed node.learner + 1) set
  pub promised : IsMajority (promisers set (executed node.learner + 1) t.received) set
  pub room : executed node.learner < max_count

abbrev pub LeaderHasProposed : Type 0
LeaderHasProposed = (node : NodeValue) (t : TermValue) (set : List Member) → IsLeading node t set
    → HasWork node t set → NothingToPropose node
    → (p : ProposalValue) × (proposal_at (executed node.learner + 1) t.proposals ≡ Some p)
