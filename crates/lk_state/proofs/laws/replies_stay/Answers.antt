use Rattle.lk_state.proofs.Wholes as law
use Rattle.lk_state.proofs.laws.replies_stay.Goals as goal

pub returns : goal.returns
returns c = law.replies_stay
