use Rattle.lk_node_files.proofs.CutLaws.{unread}
use Rattle.lk_node_files.proofs.laws.without_sums_it_is_damage.Goals as goal

pub returns : goal.returns
returns c = unread
