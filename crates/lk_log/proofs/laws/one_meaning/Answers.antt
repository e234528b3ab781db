use Rattle.lk_log.proofs.ImageLaws.{one_verdict, same_entries}
use Rattle.lk_log.proofs.laws.one_meaning.Goals as goal

pub returns-clause-verdict : goal.returns-clause-verdict
returns-clause-verdict c = one_verdict

pub returns-clause-entries : goal.returns-clause-entries
returns-clause-entries c = same_entries
