use Rattle.lk_node_files.proofs.OpeningLaws.{one_ok}
use Rattle.lk_node_files.proofs.OutdatedLaws.{needed_before}
use Rattle.lk_node_files.proofs.opening.open_to_write.Goals as goal

pub returns-in-Ok-clause-opens : goal.returns-in-Ok-clause-opens
returns-in-Ok-clause-opens g c honest =
    one_ok c.with_sums.result
    (λ o opens. (g.D.LogDisk.disk c.cut_outdated.new.device, c.in-Ok.ensures.ok honest, opens))
    (c.with_sums.ensures.opens honest)

pub returns-in-Ok-clause-needed : goal.returns-in-Ok-clause-needed
returns-in-Ok-clause-needed g c honest is =
    needed_before (g.D.LogDisk.disk c.args.device) (g.D.LogDisk.disk c.cut_outdated.new.device)
    (c.in-Ok.ensures.ok honest) (c.with_sums.ensures.damaged honest is) (c.with_sums.ensures.needed honest is)
