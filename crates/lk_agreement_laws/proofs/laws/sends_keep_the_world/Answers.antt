use Rattle.lk_agreement_laws.proofs.Runs.{batch_fits, asked_fits}
use Rattle.lk_agreement_laws.proofs.laws.sends_keep_the_world.Goals as goal

pub returns-clause-node : goal.returns-clause-node
returns-clause-node c genesis w n batch f may = batch_fits genesis w n batch may f

pub returns-clause-client : goal.returns-clause-client
returns-clause-client c = asked_fits
