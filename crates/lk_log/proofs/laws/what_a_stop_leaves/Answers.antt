use Rattle.lk_log.proofs.StoreLaws.{holds_keeps, holds_plain, synced_image, synced_live}
use Rattle.lk_log.proofs.laws.what_a_stop_leaves.Goals as goal

pub returns-clause-keeps : goal.returns-clause-keeps
returns-clause-keeps c = holds_keeps

pub returns-clause-plain : goal.returns-clause-plain
returns-clause-plain c = holds_plain

pub returns-clause-least : goal.returns-clause-least
returns-clause-least c = synced_image

pub returns-clause-synced : goal.returns-clause-synced
returns-clause-synced c = synced_live
