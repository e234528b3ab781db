use Rattle.lk_messages.proofs.DatagramLaws.{prefix_free as law}
use Rattle.lk_messages.proofs.laws.prefix_free.Goals as goal

pub returns : goal.returns
returns c = law
