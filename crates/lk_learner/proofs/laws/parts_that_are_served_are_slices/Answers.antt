use Rattle.lk_learner.proofs.PartLaws.{parts_slice}
use Rattle.lk_learner.proofs.laws.parts_that_are_served_are_slices.Goals as goal

pub returns : goal.returns
returns c = parts_slice
