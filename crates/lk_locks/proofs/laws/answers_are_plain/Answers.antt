use Rattle.lk_locks.proofs.ListLaws.{answer-text_of}
use Rattle.lk_locks.proofs.laws.answers_are_plain.Goals as goal

pub returns : goal.returns
returns c = answer-text_of
