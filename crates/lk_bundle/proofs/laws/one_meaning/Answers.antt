use Rattle.lk_bundle.proofs.PieceLaws.{one_list}
use Rattle.lk_bundle.proofs.laws.one_meaning.Goals as goal

pub returns : goal.returns
returns c = one_list
