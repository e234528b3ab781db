-- The nodes so far, and so many numbers at most are left.
use Rattle.std.proofs.Common.{◌-◌, ◌≤◌}
use Rattle.lk_members.specs.Ports.{is_named}
use Rattle.lk_node_interface.proofs.Walks.{Completes}
use Rattle.lk_node_interface.proofs.recipients.window_nodes.Given as goal

abbrev pub invariant-walk : goal.invariant-walk
invariant-walk l = (l.low ≤ 2147483648) × Completes (λ k. is_named k l.roster.sets) l.low l.nodes.items

abbrev pub decreases-walk : goal.decreases-walk
decreases-walk l = 2147483648 - l.low
