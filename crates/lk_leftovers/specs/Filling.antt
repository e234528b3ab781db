-- A leader to which votes of earlier ballots are reported. At each position up to the last of them it proposes a
-- command: the highest reported vote, or a no-op. Members do not change.
use Rattle.std.specs.Prelude.{◌≡◌, ℕ, ◌+◌, ◌<◌, true, false, List, [], Contains}
use Rattle.lk_types.specs.Limits.{max_count}
use Rattle.lk_types.specs.declared.member.Member.{Member}
use Rattle.lk_types.specs.declared.vote.Vote.{Vote}
use Rattle.lk_members.specs.Majorities.{IsMajority}
use Rattle.lk_state.specs.Meanings.{Meaning}
use Rattle.lk_leader.specs.Terms.{ProposalValue, ReceivedPromise, TermValue, proposal_at}
use Rattle.lk_leader.specs.Values.{has_vote_from, is_changing_at}
use Rattle.lk_learner.specs.Learners.{executed}
use Rattle.lk_node_interface.specs.Envelopes.{EnvelopeValue}
use Rattle.lk_node.specs.Leading.{NothingToPropose}
use Rattle.lk_node.specs.NodeValue.{NodeValue}
use Rattle.lk_progress.specs.Deciding.{IsReady, acceptances, vote_for_next}
use Rattle.lk_progress.specs.Hearing.{TakesEach}
use Rattle.lk_progress.specs.LeadingOn.{KeepsMembers, LeadsFixed}
use Rattle.std.specs.Prelude.{Some}

-- no vote that these promises report changes the members
abbrev pub ReportNoChange : List ReceivedPromise → Type 0
ReportNoChange qs =
    (q : ReceivedPromise) → Contains qs q → (v : Vote) → Contains q.votes v → KeepsMembers v.command

-- a vote is reported at the proposal's position or above it, the command changes no members, and nobody has been heard
-- to accept it
pub record IsLeftover (qs : List ReceivedPromise) (p : ProposalValue) : Type 0 where
  pub reported : has_vote_from qs p.position ≡ true
  pub keeps : KeepsMembers p.command
  pub yet_to_accept : p.accepted ≡ []

-- The node leads in this term, its members do not change, nothing waits, and it has proposed all it can: what it has
-- proposed above the executed positions are leftovers.
pub record FillsUp (node : NodeValue) (t : TermValue) (set : List Member) : Type 0 where
  pub leads : LeadsFixed node t set
  pub reports : ReportNoChange t.received
  pub waiting : node.leader.waiting ≡ []
  pub unchanged : is_changing_at node.learner.whole.roster (executed node.learner + 1) ≡ false
  pub proposed : (p : ProposalValue) → Contains t.proposals p → executed node.learner < p.position
      → IsLeftover t.received p
  pub all : NothingToPropose node

-- ---- one position

-- It has executed more, and fills on in the same ballot with the same promises, if a position is left.
pub record FillsOn (old : NodeValue) (t : TermValue) (set : List Member) (new : NodeValue) : Type 0 where
  pub moves : executed old.learner < executed new.learner
  pub fills : executed new.learner < max_count
      → (u : TermValue) × (u.ballot ≡ t.ballot) × (u.received ≡ t.received) × FillsUp new u set

-- a leader has proposed a command at its next position, and a majority's acceptances bring it on
pub record FillsNext (m : Meaning) (IsText : List ℕ → Type 0) (node : NodeValue) (t : TermValue)
    (set : List Member) : Type 0 where
  pub proposal : ProposalValue
  pub there : proposal_at (executed node.learner + 1) t.proposals ≡ Some proposal
  pub goes_on : (new : NodeValue) (voters : List ℕ) (envelopes : List EnvelopeValue) → IsMajority voters set
      → TakesEach m IsText (acceptances voters (vote_for_next node t proposal.command)) node new envelopes
      → FillsOn node t set new

abbrev pub LeaderFillsOn : Meaning → (List ℕ → Type 0) → Type 0
LeaderFillsOn m IsText = (node : NodeValue) (t : TermValue) (set : List Member) → FillsUp node t set
    → has_vote_from t.received (executed node.learner + 1) ≡ true → FillsNext m IsText node t set

-- ---- the end

-- once no vote is reported at its next position or above it, the leader is ready for a request
abbrev pub FilledLeaderIsReady : Type 0
FilledLeaderIsReady = (node : NodeValue) (t : TermValue) (set : List Member) → FillsUp node t set
    → has_vote_from t.received (executed node.learner + 1) ≡ false → IsReady node t set
