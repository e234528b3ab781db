-- How a node takes the commands of a Decided, one after another.
use Rattle.std.specs.Prelude.{◌≡◌, ℕ, ◌+◌, Some, List, ◌∷◌, slice_get}
use Rattle.lk_state.specs.Meanings.{Meaning}
use Rattle.lk_agreement_laws.specs.Chosen.{ChosenAt}
use Rattle.lk_learner.specs.Learners.{Command, Pair}
use Rattle.lk_node_interface.specs.Outboxes.{OutboxValue}
use Rattle.lk_node.specs.Executing.{RunsAll}
use Rattle.lk_node.specs.Learning.{Learns}
use Rattle.lk_node.specs.NodeValue.{NodeValue}
use Rattle.lk_node.specs.SafeSteps.{ActsSafely}

-- a pair is learned, and then everything that can be is executed
pub record LearnsPair (m : Meaning) (p : Pair) (old : NodeValue) (before : OutboxValue) (new : NodeValue)
    (after : OutboxValue) : Type 0 where
  pub learned : NodeValue
  pub written : OutboxValue
  pub learns : Learns p old before learned written
  pub runs : RunsAll m learned written new after

-- the first of some commands is learned as that of this position, and it goes on if it is chosen there; the others are
-- left
pub record LearnsFirst (m : Meaning) (position : ℕ) (commands others : List Command) (old : NodeValue)
    (before : OutboxValue) (new : NodeValue) (after : OutboxValue) : Type 0 where
  pub command : Command
  pub stands : commands ≡ command ∷ others
  pub learns : LearnsPair m (position, command) old before new after
  pub goes_on : ActsSafely m (λ h. ChosenAt h.genesis h.sent position command) old new before after

-- this many of the commands are learned in order, the first as that of this position
pub data LearnsPairs (m : Meaning) (first : ℕ) (commands : List Command) (old : NodeValue) (before : OutboxValue) : ℕ
    → NodeValue → OutboxValue → Type 0 where
  none_yet : LearnsPairs m first commands old before 0 old before
  one_more : {k : ℕ} {mid new : NodeValue} {between after : OutboxValue} (v : Command)
      → LearnsPairs m first commands old before k mid between → slice_get commands k ≡ Some v
      → LearnsPair m (first + k, v) mid between new after → LearnsPairs m first commands old before (k + 1) new after
