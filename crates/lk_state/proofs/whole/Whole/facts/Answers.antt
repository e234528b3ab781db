-- Each part has its longest text.
use Rattle.lk_state.proofs.LengthLaws.{length-packed, length-all-packed}
use Rattle.lk_state.proofs.whole.Whole.facts.Goals as goal

pub returns-clause-short : goal.returns-clause-short
returns-clause-short g c =
    rw (← c.self.view_is) (length-all-packed g.M.Machine.IsText g.met.M.Machine.short _ c.self.invariant)

pub returns-clause-by_sets : goal.returns-clause-by_sets
returns-clause-by_sets g c =
    rw (← c.self.view_is) (length-packed g.M.Machine.IsText g.met.M.Machine.short _ c.self.invariant)
