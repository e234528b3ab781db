use Rattle.lk_progress.proofs.Leading.{leader_has_proposed}
use Rattle.lk_progress.proofs.laws.an_elected_leader_has_proposed.Goals as goal

pub returns : goal.returns
returns c = leader_has_proposed
