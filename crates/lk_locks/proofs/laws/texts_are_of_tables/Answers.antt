use Rattle.lk_locks.proofs.ListLaws.{text_of-text}
use Rattle.lk_locks.proofs.laws.texts_are_of_tables.Goals as goal

pub returns : goal.returns
returns c = text_of-text
