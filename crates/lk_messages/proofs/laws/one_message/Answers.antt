use Rattle.lk_messages.proofs.DatagramLaws.{one_message as law}
use Rattle.lk_messages.proofs.laws.one_message.Goals as goal

pub returns : goal.returns
returns c = law
