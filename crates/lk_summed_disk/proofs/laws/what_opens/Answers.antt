use Rattle.lk_summed_disk.proofs.ChangeLaws.{opens_explained}
use Rattle.lk_summed_disk.proofs.laws.what_opens.Goals as goal

pub returns : goal.returns
returns c = opens_explained
