-- A candidate hears promises that may report votes of earlier ballots. With those of a majority it leads, and what it
-- has proposed by then are leftovers.
use Rattle.std.specs.Prelude.{◌≡◌, ℕ, ◌+◌, ◌<◌, false, true, Some, List, [], map, Contains}
use Rattle.lk_types.specs.Limits.{max_count}
use Rattle.lk_types.specs.declared.member.Member.{Member}
use Rattle.lk_types.specs.declared.vote.Vote.{Vote}
use Rattle.lk_messages.specs.Values.{PromiseValue}
use Rattle.lk_members.specs.Majorities.{IsMajority}
use Rattle.lk_members.specs.Rosters.{is_member}
use Rattle.lk_state.specs.Meanings.{Meaning}
use Rattle.lk_leader.specs.Proposing.{AreMembersAt}
use Rattle.lk_leader.specs.Terms.{TermValue}
use Rattle.lk_leader.specs.Values.{is_changing_at}
use Rattle.lk_learner.specs.Learners.{Pair, executed}
use Rattle.lk_node_interface.specs.Envelopes.{EnvelopeValue}
use Rattle.lk_node.specs.Executing.{NothingToRun}
use Rattle.lk_node.specs.Leading.{NothingToPropose}
use Rattle.lk_node.specs.NodeValue.{NodeValue}
use Rattle.lk_progress.specs.Electing.{AreUsable, promises}
use Rattle.lk_progress.specs.Hearing.{TakesEach}
use Rattle.lk_progress.specs.LeadingOn.{AreAll, KeepsMembers}
use Rattle.lk_leftovers.specs.Filling.{FillsUp}

-- The node has begun this term, in which nothing is promised or proposed yet. It is a member, the members of its window
-- do not change, and nothing waits or is left to execute.
pub record HasBegun (node : NodeValue) (t : TermValue) (set : List Member) : Type 0 where
  pub current : node.leader.term ≡ Some t
  pub none_received : t.received ≡ []
  pub none_proposed : t.proposals ≡ []
  pub waiting : node.leader.waiting ≡ []
  pub members : AreMembersAt node.learner.whole.roster (executed node.learner + 1) set
  pub fixed : AreAll node.learner.whole.roster.sets set
  pub named : is_member node.header.node set ≡ true
  pub keeps : (p : Pair) → Contains node.learner.pairs p → KeepsMembers p.1
  pub unchanged : is_changing_at node.learner.whole.roster (executed node.learner + 1) ≡ false
  pub known : NothingToRun node
  pub room : executed node.learner < max_count

-- the promises are of its ballot, from its next position or an earlier one on, and report no change of members
pub record MayBeHeard (node : NodeValue) (t : TermValue) (heard : List (ℕ × PromiseValue)) : Type 0 where
  pub usable : AreUsable node t heard
  pub keeps : (h : ℕ × PromiseValue) → Contains heard h → (v : Vote) → Contains h.1.votes v → KeepsMembers v.command

-- it leads in the same ballot, has executed what it had, and fills up
pub record LeadsToFill (old : NodeValue) (t : TermValue) (set : List Member) (new : NodeValue) : Type 0 where
  pub term : TermValue
  pub ballot : term.ballot ≡ t.ballot
  pub learner : new.learner ≡ old.learner
  pub fills : FillsUp new term set

abbrev pub PromisedCandidateFills : Meaning → (List ℕ → Type 0) → Type 0
PromisedCandidateFills m IsText = (old new : NodeValue) (t : TermValue) (set : List Member)
    (heard : List (ℕ × PromiseValue)) (envelopes : List EnvelopeValue) → HasBegun old t set → NothingToPropose old
    → MayBeHeard old t heard → IsMajority (map (λ h. h.0) heard) set
    → TakesEach m IsText (promises heard) old new envelopes → LeadsToFill old t set new
