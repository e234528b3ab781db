use Rattle.lk_cluster_theorems.proofs.Answering.{was_given}
use Rattle.lk_cluster_theorems.proofs.clients.a_run_returns_a_given_answer.Goals as goal

pub returns : goal.returns
returns c world promise q cluster d answer observable may =
    was_given world.genesis world.sent world.trace promise.told q d answer cluster observable may
