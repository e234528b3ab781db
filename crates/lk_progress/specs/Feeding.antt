-- How a node that is behind is fed: who answers it, with what, and what it has executed after that.
use Rattle.std.specs.Prelude.{◌≡◌, ◌⊎◌, ℕ, ◌+◌, ◌<◌, ◌≤◌, false, List, length, Contains}
use Rattle.lk_types.specs.BallotValue.{BallotValue}
use Rattle.lk_types.specs.Ballots.{is_below}
use Rattle.lk_types.specs.Limits.{max_commands}
use Rattle.lk_messages.specs.Values.{DecidedValue, WantValue, PartValue}
use Rattle.lk_messages.specs.declared.message.Nack.{Nack}
use Rattle.lk_messages.specs.declared.message.NodeMessage.TheVariants as kinds
use Rattle.lk_learner.specs.Learners.{LearnerValue, executed, alpha, IsRetained, decided_from, wanted}
use Rattle.lk_learner.specs.Parts.{start_of, AreParts}
use Rattle.lk_state.specs.Meanings.{Meaning}
use Rattle.lk_node_interface.specs.Outboxes.{OutboxValue}
use Rattle.lk_node.specs.NodeValue.{NodeValue}
use Rattle.lk_node.specs.Telling.{envelope_to}
use Rattle.lk_progress.specs.Hearing.{Hears}

-- ---- who is ahead sends

-- the commands that it keeps are those that it has executed after its snapshot, which is not empty: this is part of a
-- learner's invariant
pub record MayServe (l : LearnerValue) : Type 0 where
  pub reaches : executed l ≡ l.snapshot_position + length l.retained
  pub some : 1 ≤ length l.snapshot

-- from this position on the node keeps all commands that it has executed, and sends them: 16, or all if they are fewer
pub record SendsCommands (node : NodeValue) (to first : ℕ) (out : OutboxValue) : Type 0 where
  pub kept : IsRetained node.learner first
  pub many : (length (decided_from first node.learner).commands ≡ max_commands)
      ⊎ (first + length (decided_from first node.learner).commands ≡ executed node.learner + 1)
  pub told : Contains out.envelopes (envelope_to node (kinds.Decided (decided_from first node.learner)) to)

-- it has a snapshot in place of the command there, and sends parts of it: 8, or all from the offset on if they are
-- fewer, and one at least
pub record SendsSnapshot (node : NodeValue) (to first offset : ℕ) (out : OutboxValue) : Type 0 where
  pub replaced : first ≤ node.learner.snapshot_position
  pub parts : List PartValue
  pub are : AreParts node.learner.snapshot_position node.learner.snapshot (start_of offset node.learner.snapshot) parts
  pub some : 1 ≤ length parts
  pub told : (p : PartValue) → Contains parts p → Contains out.envelopes (envelope_to node (kinds.Part p) to)

abbrev pub Sends : NodeValue → ℕ → ℕ → ℕ → OutboxValue → Type 0
Sends node to first offset out = SendsCommands node to first out ⊎ SendsSnapshot node to first offset out

-- A node that has executed the wanted position answers: with commands, or with its snapshot.
abbrev pub WantIsAnswered : Meaning → (List ℕ → Type 0) → Type 0
WantIsAnswered m IsText = (old new : NodeValue) (from : ℕ) (want : WantValue) (out : OutboxValue)
    → MayServe old.learner → Hears m IsText old from (kinds.Want want) new out → want.first ≤ executed old.learner
    → Sends old from want.first want.offset out

-- A node that hears, by a rejection, of one that has executed less, answers in the same way.
abbrev pub LaggingNodeIsFed : Meaning → (List ℕ → Type 0) → Type 0
LaggingNodeIsFed m IsText = (old new : NodeValue) (from : ℕ) (nack : Nack) (out : OutboxValue)
    → MayServe old.learner → Hears m IsText old from (kinds.Nack nack) new out → nack.executed < executed old.learner
    → Sends old from (nack.executed + 1) 0 out

-- ---- who is behind asks

-- the node asks the other one for what it lacks
abbrev pub Asks : NodeValue → ℕ → OutboxValue → Type 0
Asks node to out = Contains out.envelopes (envelope_to node (kinds.Want (wanted node.learner)) to)

-- A node that hears, by a rejection, of one that has executed more, asks that one.
abbrev pub LaggingNodeAsks : Meaning → (List ℕ → Type 0) → Type 0
LaggingNodeAsks m IsText = (old new : NodeValue) (from : ℕ) (nack : Nack) (out : OutboxValue)
    → Hears m IsText old from (kinds.Nack nack) new out → executed old.learner < nack.executed → Asks old from out

-- So does one that hears of it by a leader's notice, unless it has promised a greater ballot.
abbrev pub FollowerAsks : Meaning → (List ℕ → Type 0) → Type 0
FollowerAsks m IsText = (old new : NodeValue) (from : ℕ) (b : BallotValue) (theirs : ℕ) (out : OutboxValue)
    → Hears m IsText old from (kinds.Lead b theirs) new out → is_below b old.acceptor.state.promised ≡ false
    → executed old.learner < theirs → Asks old from out

-- ---- and gets on, by commands

-- A node that hears decided commands, the first for the next position or an earlier one, has executed all of them.
abbrev pub DecidedIsExecuted : Meaning → (List ℕ → Type 0) → Type 0
DecidedIsExecuted m IsText = (old new : NodeValue) (from : ℕ) (d : DecidedValue) (out : OutboxValue)
    → 1 ≤ alpha old.learner → Hears m IsText old from (kinds.Decided d) new out
    → d.first ≤ executed old.learner + 1 → d.first + length d.commands ≤ executed new.learner + 1
