use Rattle.lk_hearing.proofs.Remembering.{to_heard_in, from_heard_in}
use Rattle.lk_hearing.proofs.laws.hears_by_what_happened.Goals as goal

pub returns-clause-to : goal.returns-clause-to
returns-clause-to c = to_heard_in

pub returns-clause-from : goal.returns-clause-from
returns-clause-from c = from_heard_in
