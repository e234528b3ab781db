use Rattle.lk_bundle.proofs.PieceLaws.{split_again}
use Rattle.lk_bundle.proofs.laws.is_split.Goals as goal

pub returns : goal.returns
returns c = split_again
