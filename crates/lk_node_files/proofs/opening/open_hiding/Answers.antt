use Rattle.lk_summed_disk.specs.Hiding.{shown}
use Rattle.lk_node_files.proofs.OpeningLaws.{same_error}
use Rattle.lk_node_files.proofs.opening.open_hiding.Goals as goal

pub returns-in-Err-clause-damaged : goal.returns-in-Err-clause-damaged
returns-in-Err-clause-damaged g c honest is =
    c.write_why.ensures.damaged (same_error _ _ is) (λ t. shown g.D.LogDisk.disk c.args.device t)
    (c.in-Err.ensures.damaged honest)
