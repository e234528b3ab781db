use Rattle.lk_agreement_laws.proofs.ChangeLaws.{restart_fits}
use Rattle.lk_agreement_laws.proofs.Runs.{with_paxos_fits}
use Rattle.lk_agreement_laws.proofs.laws.restarts_keep_the_world.Goals as goal

pub returns : goal.returns
returns c genesis w n image f covers stems ended =
    with_paxos_fits genesis w n image f (restart_fits genesis w.sent n image covers stems ended)
