use Rattle.lk_agreement_laws.proofs.Runs.{becomes_fits}
use Rattle.lk_agreement_laws.proofs.laws.changes_keep_the_world.Goals as goal

pub returns : goal.returns
returns c = becomes_fits
