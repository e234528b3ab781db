use Rattle.lk_state.proofs.LastLaws as law
use Rattle.lk_state.proofs.laws.takes_effect_above_last.Goals as goal

pub returns : goal.returns
returns c = law.takes_effect_above_last
