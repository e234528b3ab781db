-- How long a node waits for a leader before it begins a ballot.
use Rattle.std.specs.Prelude.{◌≡◌, ◌⊎◌, ℕ, ◌+◌, ◌≤◌, true, false, min, Option}
use Rattle.lk_types.specs.Limits.{max_count}
use Rattle.lk_node_interface.specs.Outboxes.{OutboxValue, nothing}
use Rattle.lk_node_interface.specs.Recipients.{index_in}
use Rattle.lk_node_interface.specs.Ticks.{max_ticks, is_enough}
use Rattle.lk_node.specs.Beginning.{greatest_round, next_ballot, BeginsBallot}
use Rattle.lk_node.specs.NodeValue.{NodeValue}

-- the place of the node among the members of the next position, from 0
abbrev pub index_of : NodeValue → Option ℕ
index_of node = index_in node.learner.whole.roster.sets node.header.node

-- one more tick has passed
abbrev pub ticked : NodeValue → NodeValue
ticked node = record node { ticks = min (node.ticks + 1) max_ticks }

-- If it has waited long enough, and a greater round exists, the node begins its next ballot.
abbrev pub BeginsWhereDue : NodeValue → NodeValue → OutboxValue → Type 0
BeginsWhereDue old new out =
    ((is_enough old.ticks (index_of old) ≡ true) × BeginsBallot (next_ballot old) old new out)
    ⊎ (((is_enough old.ticks (index_of old) ≡ false) ⊎ (max_count ≤ greatest_round old))
    × (new ≡ old) × (out ≡ nothing))
