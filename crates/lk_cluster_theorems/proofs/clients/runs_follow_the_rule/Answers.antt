use Rattle.lk_cluster_theorems.proofs.Asking.{all_follow}
use Rattle.lk_cluster_theorems.proofs.clients.runs_follow_the_rule.Goals as goal

pub returns : goal.returns
returns c client runs are = all_follow client runs are
