use Rattle.lk_guarantees.proofs.Replying.{replies_explained}
use Rattle.lk_guarantees.proofs.laws.replies_are_explained.Goals as goal

pub returns : goal.returns
returns c world L p x = replies_explained world.genesis world.sent world.trace L p.told x
