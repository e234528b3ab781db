use Rattle.lk_guarantees.proofs.Linear.{linearizable}
use Rattle.lk_guarantees.proofs.laws.worlds_are_linearizable.Goals as goal

pub returns : goal.returns
returns c world p = linearizable world.genesis world.sent world.trace p.explained p.order
