use Rattle.std.proofs.Common.{◌-◌}
use Rattle.lk_healing.proofs.Rises.{IsLeveling}
use Rattle.lk_healing.specs.Levels.{MayLevel}
use Rattle.lk_healing.proofs.leveling.level.Given as goal

abbrev pub invariant-rounds : goal.invariant-rounds
invariant-rounds g l = (k : MayLevel g.M.Machine.meaning g.M.Machine.IsText l.fn.world l.fn.candidate l.fn.nodes)
    → IsLeveling g.M.Machine.meaning g.M.Machine.IsText l.fn.candidate l.fn.nodes l.fn.world k l.reached l.world

abbrev pub decreases-rounds : goal.decreases-rounds
decreases-rounds g l = 18446744073709551616 - l.reached
