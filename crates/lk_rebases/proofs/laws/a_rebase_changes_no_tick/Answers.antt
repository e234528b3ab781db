use Rattle.lk_rebases.proofs.Staying.{ticked_other}
use Rattle.lk_rebases.proofs.laws.a_rebase_changes_no_tick.Goals as goal

pub returns : goal.returns
returns c = ticked_other
