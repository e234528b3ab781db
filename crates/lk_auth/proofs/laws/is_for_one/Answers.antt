use Rattle.lk_auth.proofs.VouchLaws.{is_for_one as law}
use Rattle.lk_auth.proofs.laws.is_for_one.Goals as goal

pub returns : goal.returns
returns c = law
