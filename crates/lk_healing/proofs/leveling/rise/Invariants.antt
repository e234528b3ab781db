use Rattle.lk_healing.proofs.Rises.{IsRising}
use Rattle.lk_healing.specs.Levels.{MayLevel}
use Rattle.lk_healing.proofs.leveling.rise.Given as goal

abbrev pub invariant-nodes : goal.invariant-nodes
invariant-nodes g l = (k : MayLevel g.M.Machine.meaning g.M.Machine.IsText l.fn.world l.fn.candidate l.fn.nodes)
    → IsRising g.M.Machine.meaning g.M.Machine.IsText l.fn.candidate l.fn.nodes l.fn.world k l.i l.reached l.world
