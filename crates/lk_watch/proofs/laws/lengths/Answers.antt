use Rattle.lk_watch.proofs.DatagramLaws.{watch_length_is, notice_length_is}
use Rattle.lk_watch.proofs.laws.lengths.Goals as goal

pub returns-clause-watch : goal.returns-clause-watch
returns-clause-watch c = watch_length_is

pub returns-clause-notice : goal.returns-clause-notice
returns-clause-notice c = notice_length_is
