use Rattle.lk_auth.proofs.VouchLaws.{is_of_who_it_names as law}
use Rattle.lk_auth.proofs.laws.is_of_who_it_names.Goals as goal

pub returns : goal.returns
returns c = law
