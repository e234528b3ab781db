use Rattle.lk_agreement_laws.proofs.Runs.{start_fits}
use Rattle.lk_agreement_laws.proofs.laws.the_start_fits.Goals as goal

pub returns : goal.returns
returns c = start_fits
