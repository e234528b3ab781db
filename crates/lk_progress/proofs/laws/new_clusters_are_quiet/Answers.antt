use Rattle.lk_progress.proofs.Beginnings.{starts_quietly}
use Rattle.lk_progress.proofs.laws.new_clusters_are_quiet.Goals as goal

pub returns : goal.returns
returns c = starts_quietly
