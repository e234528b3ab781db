use Rattle.lk_cluster_theorems.proofs.Asking.{follows_rule}
use Rattle.lk_cluster_theorems.proofs.clients.a_run_follows_the_rule.Goals as goal

pub returns : goal.returns
returns c q before later old new run rule may only = follows_rule q before later run.more run.same rule may only
