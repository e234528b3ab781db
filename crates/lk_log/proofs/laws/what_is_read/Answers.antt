use Rattle.lk_log.proofs.StoreLaws.{seen_left, empty_image}
use Rattle.lk_log.proofs.laws.what_is_read.Goals as goal

pub returns-clause-left : goal.returns-clause-left
returns-clause-left c = seen_left

pub returns-clause-empty : goal.returns-clause-empty
returns-clause-empty c = empty_image
