use Rattle.std.proofs.Common.{◌≡◌, true, List}
use Rattle.lk_store_format.specs.declared.stored.Stored.{Stored}
use Rattle.lk_log.proofs.StoreLaws.{opening_is, openings, openings_every}
use Rattle.lk_log.proofs.laws.openings.Goals as goal

pub returns-clause-one : goal.returns-clause-one
returns-clause-one c = opening_is

pub returns-clause-more : goal.returns-clause-more
returns-clause-more c = openings

pub returns-clause-keep : goal.returns-clause-keep
returns-clause-keep c old new whose text test = openings_every (λ (es : List Stored). test es ≡ true) old new whose text
