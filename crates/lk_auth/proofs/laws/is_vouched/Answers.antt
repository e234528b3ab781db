use Rattle.lk_auth.proofs.VouchLaws.{is_vouched as law}
use Rattle.lk_auth.proofs.laws.is_vouched.Goals as goal

pub returns : goal.returns
returns c = law
