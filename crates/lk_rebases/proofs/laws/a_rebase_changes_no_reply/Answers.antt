use Rattle.lk_rebases.proofs.Taking.{taken}
use Rattle.lk_rebases.proofs.laws.a_rebase_changes_no_reply.Goals as goal

pub returns : goal.returns
returns g c = taken g.M.Machine.meaning g.M.Machine.IsText
