use Rattle.lk_members.proofs.EffectLaws as law
use Rattle.lk_members.proofs.laws.entries_follow_their_predecessors.Goals as goal

pub returns : goal.returns
returns c = law.entries_follow_their_predecessors
