use Rattle.lk_healing.proofs.Rises.{IsRaising}
use Rattle.lk_healing.specs.Levels.{MayLevel}
use Rattle.lk_healing.proofs.leveling.raise_each.Given as goal

abbrev pub invariant-nodes : goal.invariant-nodes
invariant-nodes g l = (k : MayLevel g.M.Machine.meaning g.M.Machine.IsText l.fn.world l.fn.candidate l.fn.nodes)
    → IsRaising g.M.Machine.meaning g.M.Machine.IsText l.fn.candidate l.fn.nodes l.fn.world k l.i l.world
