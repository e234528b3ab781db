use Rattle.lk_members.proofs.EffectLaws as law
use Rattle.lk_members.proofs.laws.numbers_take_effect_once.Goals as goal

pub returns : goal.returns
returns c = law.numbers_take_effect_once
