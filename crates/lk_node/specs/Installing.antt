-- How a node handles a part of another node's snapshot.
use Rattle.std.specs.Prelude.{◌≡◌, ◌⊎◌, ℕ, ◌+◌, Bool, true, false, Some, List, length, slice_get}
use Rattle.lk_messages.specs.Values.{PartValue}
use Rattle.lk_state.specs.Meanings.{Meaning}
use Rattle.lk_state.specs.declared.session.Session.{Session}
use Rattle.lk_learner.specs.Installing.{hearing, Installs}
use Rattle.lk_learner.specs.Learners.{LearnerValue}
use Rattle.lk_node_interface.specs.Outboxes.{OutboxValue, nothing, with_rebase}
use Rattle.lk_node.specs.Executing.{EndsWait, without_term_if_outside, RunsAll}
use Rattle.lk_node.specs.Learning.{with_learner}
use Rattle.lk_node.specs.NodeValue.{NodeValue}

-- the learner gathers the part, and if that completes a text, the text is installed, or else thrown away
abbrev pub GathersPart : (List ℕ → Type 0) → Bool → PartValue → NodeValue → NodeValue → Type 0
GathersPart IsText went p old new =
    (l : LearnerValue) × Installs IsText went (hearing p old.learner) l × (new ≡ with_learner old l)

-- the waits of the clients of this many sessions end, one after another
pub data EndsFirstWaits (ss : List Session) (old : NodeValue) (before : OutboxValue) : ℕ → NodeValue
    → OutboxValue → Type 0 where
  none_ended : EndsFirstWaits ss old before 0 old before
  one_ended : {k : ℕ} {mid new : NodeValue} {between after : OutboxValue} (s : Session)
      → EndsFirstWaits ss old before k mid between → slice_get ss k ≡ Some s → EndsWait s mid between new after
      → EndsFirstWaits ss old before (k + 1) new after

-- all of them, in their order
abbrev pub EndsWaits : List Session → NodeValue → OutboxValue → NodeValue → OutboxValue → Type 0
EndsWaits ss old before new after = EndsFirstWaits ss old before (length ss) new after

-- The learner has installed a state: the store is to be rebased, waiting requests are answered from the state in
-- rising order of clients, the term ends if no set of its window names the node, and everything that can be is
-- executed.
pub record InstallsGathered (m : Meaning) (old new : NodeValue) (out : OutboxValue) : Type 0 where
  pub told : NodeValue
  pub said : OutboxValue
  pub ends_wait : EndsWaits old.learner.whole.sessions old (with_rebase nothing) told said
  pub runs : RunsAll m (without_term_if_outside told) said new out

-- a part is heard: if that installs a state, the node adopts it, and otherwise nothing follows
abbrev pub HandlesPart : Meaning → (List ℕ → Type 0) → NodeValue → PartValue → NodeValue → OutboxValue → Type 0
HandlesPart m IsText old p new out =
    ((mid : NodeValue) × GathersPart IsText true p old mid × InstallsGathered m mid new out)
    ⊎ (GathersPart IsText false p old new × (out ≡ nothing))
