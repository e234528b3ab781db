use Rattle.lk_server.proofs.Free.{told_or_asked as law}
use Rattle.lk_server.proofs.laws.is_told_or_asked.Goals as goal

pub returns : goal.returns
returns c = law
