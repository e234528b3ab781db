use Rattle.lk_state.proofs.LastLaws as law
use Rattle.lk_state.proofs.laws.replies_come_from_entries.Goals as goal

pub returns : goal.returns
returns c = law.replies_come_from_entries
