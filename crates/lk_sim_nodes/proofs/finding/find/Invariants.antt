use Rattle.std.proofs.Common.{◌≡◌, ℕ, ◌<◌, get_or}
use Rattle.lk_sim_nodes.specs.declared.sim_node.SimNode.{SimNode}
use Rattle.lk_sim_nodes.proofs.finding.find.Given as goal

abbrev pub invariant-loop-i : goal.invariant-loop-i
invariant-loop-i g l =
    (k : ℕ) (t : SimNode g.row.R.Denot) → k < l.i → get_or l.fn.sim_nodes k t ≡ t → t.number ≡ l.fn.number → ⊥
