-- Who asks one that is ahead gets on.
use Rattle.std.proofs.Common.{◌≡◌, ◌⊎◌, inl, inr, ℕ, ◌+◌, ◌≤◌, List, length, arith}
use Rattle.lk_learner.specs.Learners.{executed, alpha, decided_from, gathered_bytes, wanted}
use Rattle.lk_node.specs.NodeValue.{NodeValue}
use Rattle.lk_node_interface.specs.Outboxes.{OutboxValue}
use Rattle.lk_progress.proofs.Executing.{decided_executed}
use Rattle.lk_progress.proofs.Feeding.{start_below, want_answered}
use Rattle.lk_progress.proofs.Gathering.{parts_installed}
use Rattle.lk_progress.specs.Feeding.{SendsCommands, SendsSnapshot, Sends}
use Rattle.lk_progress.specs.GettingOn.{IsBehind, GetsCommands, GetsSnapshot, LaggingNodeGetsOn, start_for}
use Rattle.lk_state.specs.Meanings.{Meaning}

module _ (m : Meaning) (IsText : List ℕ → Type 0) (behind ahead : NodeValue) (out : OutboxValue)
    (k : IsBehind behind ahead) where
  some : 1 ≤ alpha behind.learner
  some = omega (arith, k.window, k.learner.window.0)

  by_commands : SendsCommands ahead behind.header.node (executed behind.learner + 1) out
      → GetsCommands m IsText behind ahead out
  by_commands sends = record {
    sends = sends;
    gains = λ new from taken hears. by_count new sends.many
        (decided_executed m IsText behind new from
        (decided_from (executed behind.learner + 1) ahead.learner) taken some hears (omega arith));
  }
    where
      count : ℕ
      count = length (decided_from (executed behind.learner + 1) ahead.learner).commands

      by_count : (new : NodeValue)
          → (length (decided_from (executed behind.learner + 1) ahead.learner).commands ≡ 16)
          ⊎ (executed behind.learner + 1
          + length (decided_from (executed behind.learner + 1) ahead.learner).commands ≡ executed ahead.learner + 1)
          → executed behind.learner + 1
          + length (decided_from (executed behind.learner + 1) ahead.learner).commands ≤ executed new.learner + 1
          → (executed behind.learner + 16 ≤ executed new.learner) ⊎ (executed ahead.learner ≤ executed new.learner)
      by_count new (inl many) reached = inl (omega (arith, many, reached))
      by_count new (inr all) reached = inr (omega (arith, all, reached))

  by_snapshot : SendsSnapshot ahead behind.header.node (executed behind.learner + 1)
      (gathered_bytes behind.learner.gathered) out
      → GetsSnapshot m IsText behind ahead out
  by_snapshot sends = record {
    sends = sends;
    gains = λ new from w envelopes unpacks has takes.
        parts_installed m IsText behind new from ahead.learner.snapshot_position (start_for behind ahead)
        ahead.learner.snapshot w sends.parts envelopes some (omega (arith, sends.replaced)) unpacks
        (start_below (gathered_bytes behind.learner.gathered) ahead.learner.snapshot k.learner.some) has sends.are
        takes;
  }

pub lagging_gets_on : (m : Meaning) (IsText : List ℕ → Type 0) → LaggingNodeGetsOn m IsText
lagging_gets_on m IsText behind ahead new out k hears = by_case
    (want_answered m IsText ahead new behind.header.node (wanted behind.learner) out
    (record { reaches = k.learner.reaches; some = k.learner.some }) hears
    (omega (arith, k.less)))
  where
    by_case : Sends ahead behind.header.node (executed behind.learner + 1) (gathered_bytes behind.learner.gathered) out
        → GetsCommands m IsText behind ahead out ⊎ GetsSnapshot m IsText behind ahead out
    by_case (inl commands) = inl (by_commands m IsText behind ahead out k commands)
    by_case (inr snapshot) = inr (by_snapshot m IsText behind ahead out k snapshot)
