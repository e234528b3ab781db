-- Two nodes, one of which has executed more: what the other gains when it asks once, and takes what it is sent.
use Rattle.std.specs.Prelude.{◌≡◌, ◌⊎◌, ℕ, ◌+◌, ◌*◌, ◌<◌, ◌≤◌, List, length}
use Rattle.lk_types.specs.Limits.{max_commands, max_part}
use Rattle.lk_messages.specs.declared.message.NodeMessage.TheVariants as kinds
use Rattle.lk_learner.specs.Learners.{WholeValue, IsLearner, executed, alpha, decided_from, gathered_bytes, wanted}
use Rattle.lk_learner.specs.Parts.{start_of}
use Rattle.lk_learner.specs.Unpacking.{Unpacks}
use Rattle.lk_state.specs.Meanings.{Meaning}
use Rattle.lk_node_interface.specs.Envelopes.{EnvelopeValue}
use Rattle.lk_node_interface.specs.Outboxes.{OutboxValue}
use Rattle.lk_node.specs.NodeValue.{NodeValue}
use Rattle.lk_progress.specs.Feeding.{SendsCommands, SendsSnapshot}
use Rattle.lk_progress.specs.Gathering.{HasSoFar, GetsOn, parts_from}
use Rattle.lk_progress.specs.Hearing.{Hears, TakesEach}

-- the other node has executed more, and has a window as large
pub record IsBehind (behind ahead : NodeValue) : Type 0 where
  pub less : executed behind.learner < executed ahead.learner
  pub window : alpha behind.learner ≡ alpha ahead.learner
  pub learner : IsLearner ahead.learner

-- it is sent commands: once it has taken them, it has executed 16 more, or as much as the other node
pub record GetsCommands (m : Meaning) (IsText : List ℕ → Type 0) (behind ahead : NodeValue)
    (out : OutboxValue) : Type 0 where
  pub sends : SendsCommands ahead behind.header.node (executed behind.learner + 1) out
  pub gains : (new : NodeValue) (from : ℕ) (taken : OutboxValue)
      → Hears m IsText behind from (kinds.Decided (decided_from (executed behind.learner + 1) ahead.learner)) new taken
      → (executed behind.learner + max_commands ≤ executed new.learner) ⊎ (executed ahead.learner ≤ executed
      new.learner)

-- from which byte on it is sent the other node's snapshot
abbrev pub start_for : NodeValue → NodeValue → ℕ
start_for behind ahead = start_of (gathered_bytes behind.learner.gathered) ahead.learner.snapshot

-- It is sent parts of a snapshot. If that is the packed text of a state, and what is gathered is the text before those
-- parts, then once it has taken them the text is longer, or is installed.
pub record GetsSnapshot (m : Meaning) (IsText : List ℕ → Type 0) (behind ahead : NodeValue)
    (out : OutboxValue) : Type 0 where
  pub sends : SendsSnapshot ahead behind.header.node (executed behind.learner + 1)
      (gathered_bytes behind.learner.gathered) out
  pub gains : (new : NodeValue) (from : ℕ) (w : WholeValue) (envelopes : List EnvelopeValue)
      → Unpacks IsText (alpha behind.learner) ahead.learner.snapshot_position ahead.learner.snapshot w
      → HasSoFar behind.learner ahead.learner.snapshot_position ahead.learner.snapshot (start_for behind ahead)
      → TakesEach m IsText (parts_from from sends.parts) behind new envelopes
      → GetsOn behind new ahead.learner.snapshot_position ahead.learner.snapshot
      (start_for behind ahead + length sends.parts * max_part)

abbrev pub LaggingNodeGetsOn : Meaning → (List ℕ → Type 0) → Type 0
LaggingNodeGetsOn m IsText = (behind ahead new : NodeValue) (out : OutboxValue) → IsBehind behind ahead
    → Hears m IsText ahead behind.header.node (kinds.Want (wanted behind.learner)) new out
    → GetsCommands m IsText behind ahead out ⊎ GetsSnapshot m IsText behind ahead out
