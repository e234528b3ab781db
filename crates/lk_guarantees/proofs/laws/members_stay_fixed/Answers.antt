use Rattle.lk_guarantees.proofs.Fixed.{fixed_members}
use Rattle.lk_guarantees.proofs.laws.members_stay_fixed.Goals as goal

pub returns : goal.returns
returns c = fixed_members
