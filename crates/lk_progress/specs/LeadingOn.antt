-- A leader whose members do not change leads on: with each position that a majority accepts it has executed more, and
-- leads at the next one in the same ballot.
use Rattle.std.specs.Prelude.{◌≡◌, ℕ, ◌<◌, true, Some, List, length, slice_get, Contains}
use Rattle.lk_types.specs.Limits.{max_count}
use Rattle.lk_types.specs.declared.member.Member.{Member}
use Rattle.lk_members.specs.Effects.{Command, Noop, Request}
use Rattle.lk_members.specs.Majorities.{IsMajority}
use Rattle.lk_members.specs.Rosters.{is_member, IsChange}
use Rattle.lk_state.specs.Meanings.{Meaning}
use Rattle.lk_leader.specs.Terms.{TermValue}
use Rattle.lk_learner.specs.Learners.{Pair, executed}
use Rattle.lk_node_interface.specs.Envelopes.{EnvelopeValue}
use Rattle.lk_node.specs.Executing.{NothingToRun}
use Rattle.lk_node.specs.NodeValue.{NodeValue}
use Rattle.lk_progress.specs.Deciding.{acceptances, vote_for_next, HasProposed}
use Rattle.lk_progress.specs.Hearing.{TakesEach}
use Rattle.lk_progress.specs.Leading.{IsLeading}

-- each position of the window has this set
abbrev pub AreAll : List (List Member) → List Member → Type 0
AreAll sets set = (k : ℕ) → k < length sets → slice_get sets k ≡ Some set

-- the command is no join and no leave
abbrev pub KeepsMembers : Command → Type 0
KeepsMembers Noop = Unit {0}
KeepsMembers (Request r) = IsChange r.op → ⊥

-- the node leads in this term and is a member itself; each position of its window has the same members, and no command
-- that it knows changes them; nothing is left to execute
pub record LeadsFixed (node : NodeValue) (t : TermValue) (set : List Member) : Type 0 where
  pub leads : IsLeading node t set
  pub fixed : AreAll node.learner.whole.roster.sets set
  pub named : is_member node.header.node set ≡ true
  pub keeps : (p : Pair) → Contains node.learner.pairs p → KeepsMembers p.1
  pub known : NothingToRun node

-- it has executed more, and leads on in the same ballot, if a position is left
pub record LeadsOn (old : NodeValue) (t : TermValue) (set : List Member) (new : NodeValue) : Type 0 where
  pub moves : executed old.learner < executed new.learner
  pub leads : executed new.learner < max_count → (u : TermValue) × (u.ballot ≡ t.ballot) × LeadsFixed new u set

abbrev pub LeaderLeadsOn : Meaning → (List ℕ → Type 0) → Type 0
LeaderLeadsOn m IsText = (old new : NodeValue) (t : TermValue) (set : List Member) (v : Command)
    (accepted voters : List ℕ) (envelopes : List EnvelopeValue) → LeadsFixed old t set → KeepsMembers v
    → HasProposed old t set v accepted → IsMajority voters set
    → TakesEach m IsText (acceptances voters (vote_for_next old t v)) old new envelopes → LeadsOn old t set new
