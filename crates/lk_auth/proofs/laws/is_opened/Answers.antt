use Rattle.lk_auth.proofs.VouchLaws.{opened_among as law}
use Rattle.lk_auth.proofs.laws.is_opened.Goals as goal

pub returns : goal.returns
returns c = law
