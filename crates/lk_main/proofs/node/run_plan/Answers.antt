use Rattle.lk_main.proofs.Leaving.{left_at}
use Rattle.lk_main.proofs.node.run_plan.Goals as goal

pub returns-in-Ok-clause-ends : goal.returns-in-Ok-clause-ends
returns-in-Ok-clause-ends g c =
    let r = c.run_node.ensures in
    record {
      resources = _;
      opened = c.in-Ok.ensures;
      most = r.status;
      leaves = left_at _ _ _ _ _ c.run_node.result.left c.run_node.result.status r.status r.ran_all_turns r.broken
          r.refused
          (λ ended zero one. record { all_turns = zero; broken = one })
          (λ e one rests. record { failed = one; rests = rests });
    }
