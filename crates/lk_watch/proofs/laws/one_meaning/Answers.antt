use Rattle.lk_watch.proofs.DatagramLaws.{one_watch, one_notice}
use Rattle.lk_watch.proofs.laws.one_meaning.Goals as goal

pub returns-clause-watch : goal.returns-clause-watch
returns-clause-watch c = one_watch

pub returns-clause-notice : goal.returns-clause-notice
returns-clause-notice c = one_notice
