use Rattle.lk_node_files.proofs.CutLaws.{cut_keeps}
use Rattle.lk_node_files.proofs.laws.a_cut_keeps_the_live_file.Goals as goal

pub returns : goal.returns
returns c = cut_keeps
