use Rattle.lk_rebases.proofs.Replies.{fits_snapshot}
use Rattle.lk_rebases.proofs.laws.another_rebase_fits.Goals as goal

pub returns : goal.returns
returns c = fits_snapshot
