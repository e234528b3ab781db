use Rattle.lk_agreement_laws.proofs.ChangeLaws.{changes_fit}
use Rattle.lk_agreement_laws.proofs.laws.changes_keep_the_node.Goals as goal

pub returns : goal.returns
returns c genesis sent n old new sound = changes_fit genesis sent sound n old new
