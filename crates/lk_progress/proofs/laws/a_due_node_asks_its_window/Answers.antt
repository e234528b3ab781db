use Rattle.lk_progress.proofs.Electing.{due_asks}
use Rattle.lk_progress.proofs.laws.a_due_node_asks_its_window.Goals as goal

pub returns : goal.returns
returns c = due_asks
