use Rattle.lk_node_files.proofs.LiveLaws.{still_live}
use Rattle.lk_node_files.proofs.laws.the_older_file_is_not_live.Goals as goal

pub returns : goal.returns
returns c = still_live
