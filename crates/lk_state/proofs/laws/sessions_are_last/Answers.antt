use Rattle.lk_state.proofs.Wholes as law
use Rattle.lk_state.proofs.laws.sessions_are_last.Goals as goal

pub returns : goal.returns
returns c = law.sessions_are_last
