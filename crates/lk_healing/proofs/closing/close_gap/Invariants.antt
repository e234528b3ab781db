use Rattle.lk_healing.proofs.Gaps.{IsGoing}
use Rattle.lk_healing.specs.Gaps.{MayClose}
use Rattle.lk_healing.proofs.closing.close_gap.Given as goal

abbrev pub invariant-gaps : goal.invariant-gaps
invariant-gaps g l = (k : MayClose g.M.Machine.meaning g.M.Machine.IsText l.fn.world l.fn.behind l.fn.ahead)
    → IsGoing g.M.Machine.meaning g.M.Machine.IsText l.fn.behind l.fn.ahead l.fn.world k l.counter l.world
