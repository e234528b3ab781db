use Rattle.lk_state.proofs.LastLaws as law
use Rattle.lk_state.proofs.laws.none_is_unused.Goals as goal

pub returns : goal.returns
returns c = law.none_is_unused
