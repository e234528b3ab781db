use Rattle.lk_store_format.proofs.Spelling.{same_front, one_entry, spelled_long}
use Rattle.lk_store_format.proofs.laws.one_spelling.Goals as goal

pub returns-clause-one : goal.returns-clause-one
returns-clause-one c = one_entry

pub returns-clause-no_front : goal.returns-clause-no_front
returns-clause-no_front c = same_front

pub returns-clause-long : goal.returns-clause-long
returns-clause-long c = spelled_long
