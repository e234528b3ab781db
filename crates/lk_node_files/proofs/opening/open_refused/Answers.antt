use Rattle.std.proofs.Common.{subst}
use Rattle.lk_summed_disk.specs.Hiding.{shown}
use Rattle.lk_summed_disk.specs.Opened.{IsDamagedOn}
use Rattle.lk_node_files.proofs.opening.open_refused.Goals as goal

pub returns-in-Damaged-clause-opens : goal.returns-in-Damaged-clause-opens
returns-in-Damaged-clause-opens g c honest damaged =
    c.open_without.ensures.opens honest
    (subst (IsDamagedOn (λ s. shown g.D.LogDisk.disk c.args.refused.device s)) c.in-Damaged.is damaged)

pub returns-in-Damaged-clause-damaged : goal.returns-in-Damaged-clause-damaged
returns-in-Damaged-clause-damaged g c honest damaged is sound =
    subst (IsDamagedOn (λ s. shown g.D.LogDisk.disk c.args.refused.device s)) c.in-Damaged.is damaged
    (sound c.in-Damaged.side)

pub returns-in-Damaged-clause-needed : goal.returns-in-Damaged-clause-needed
returns-in-Damaged-clause-needed g c honest damaged is =
    c.open_without.ensures.needed honest
    (subst (IsDamagedOn (λ s. shown g.D.LogDisk.disk c.args.refused.device s)) c.in-Damaged.is damaged) is
