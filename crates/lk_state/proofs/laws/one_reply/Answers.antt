use Rattle.lk_state.proofs.LastLaws as law
use Rattle.lk_state.proofs.laws.one_reply.Goals as goal

pub returns : goal.returns
returns c = law.one_reply
