use Rattle.lk_progress.proofs.Ticking.{outsider_silent}
use Rattle.lk_progress.proofs.laws.an_outsider_is_silent_at_ticks.Goals as goal

pub returns : goal.returns
returns c = outsider_silent
