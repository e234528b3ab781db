use Rattle.lk_guarantees.proofs.Guarded.{are_listed}
use Rattle.lk_guarantees.proofs.laws.grants_are_listed.Goals as goal

pub returns : goal.returns
returns c world p = are_listed world.genesis world.sent world.trace p.explained
