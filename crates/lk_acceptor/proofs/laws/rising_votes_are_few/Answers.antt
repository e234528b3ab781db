use Rattle.lk_acceptor.proofs.Rising.{rising_count}
use Rattle.lk_acceptor.proofs.laws.rising_votes_are_few.Goals as goal

pub returns : goal.returns
returns c = rising_count
