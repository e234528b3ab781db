-- How a node keeps and writes a decided command.
use Rattle.std.specs.Prelude.{◌≡◌, ◌⊎◌}
use Rattle.lk_types.specs.declared.entry.Entry.TheVariants.{Decided}
use Rattle.lk_learner.specs.Learners.{Pair, LearnerValue, IsWanted, keeping}
use Rattle.lk_node_interface.specs.Outboxes.{OutboxValue, with_entry}
use Rattle.lk_node.specs.NodeValue.{NodeValue}

abbrev pub with_learner : NodeValue → LearnerValue → NodeValue
with_learner node l = record node { learner = l }

-- a decided pair that is wanted is kept, and an entry tells of it; any other changes nothing
abbrev pub Learns : Pair → NodeValue → OutboxValue → NodeValue → OutboxValue → Type 0
Learns p old before new after =
    (IsWanted old.learner p.0 × (new ≡ with_learner old (keeping p old.learner))
    × (after ≡ with_entry (Decided p.0 p.1) before))
    ⊎ ((IsWanted old.learner p.0 → ⊥) × (new ≡ old) × (after ≡ before))
