use Rattle.lk_state.proofs.LastLaws as law
use Rattle.lk_state.proofs.laws.last_is_replied.Goals as goal

pub returns : goal.returns
returns c = law.last_is_replied
