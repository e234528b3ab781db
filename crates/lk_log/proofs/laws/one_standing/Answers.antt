use Rattle.lk_log.proofs.StoreLaws.{live_stands, one_standing, plain_stands}
use Rattle.lk_log.proofs.laws.one_standing.Goals as goal

pub returns-clause-some : goal.returns-clause-some
returns-clause-some c = live_stands

pub returns-clause-one : goal.returns-clause-one
returns-clause-one c = one_standing

pub returns-clause-more : goal.returns-clause-more
returns-clause-more c = plain_stands
