use Rattle.lk_summed_disk.specs.Hiding.{shown}
use Rattle.lk_node_files.proofs.OpeningLaws.{both_ok, one_ok, some_hidden, opens_hiding, hiding_needed}
use Rattle.lk_node_files.proofs.OpeningLaws.{not_older_needed}
use Rattle.lk_node_files.proofs.opening.open_without.Goals as goal

pub returns-in-Ok-true-clause-opens : goal.returns-in-Ok-true-clause-opens
returns-in-Ok-true-clause-opens g c honest damaged =
    both_ok c.open_hiding.result
    (λ o opens hidden. opens_hiding (λ d s. shown g.D.LogDisk.disk d s) c.args.sums
    (λ s. shown g.D.LogDisk.disk c.args.device s) (λ s. shown g.D.LogDisk.disk c.is_older.new.device s)
    (λ s. shown g.D.LogDisk.disk c.hide.new.self s) c.args.side o.device o.hidden (c.is_older.ensures.unchanged honest)
    c.hide.ensures damaged (c.in-Ok-true.ensures.yes honest c.in-Ok-true.field-0-test) opens hidden)
    (c.open_hiding.ensures.opens honest) c.open_hiding.ensures.hidden

pub returns-in-Ok-true-clause-needed : goal.returns-in-Ok-true-clause-needed
returns-in-Ok-true-clause-needed g c honest damaged is =
    hiding_needed (λ s. shown g.D.LogDisk.disk c.args.device s) (λ s. shown g.D.LogDisk.disk c.is_older.new.device s)
    (λ s. shown g.D.LogDisk.disk c.hide.new.self s) c.args.side (c.is_older.ensures.unchanged honest)
    c.hide.ensures damaged (c.open_hiding.ensures.damaged honest is)

pub returns-in-Ok-true-clause-hidden : goal.returns-in-Ok-true-clause-hidden
returns-in-Ok-true-clause-hidden g c =
    one_ok c.open_hiding.result (λ o is. some_hidden o.hidden c.args.side is) c.open_hiding.ensures.hidden

pub returns-in-Ok-false-clause-needed : goal.returns-in-Ok-false-clause-needed
returns-in-Ok-false-clause-needed g c honest damaged is =
    not_older_needed (λ s. shown g.D.LogDisk.disk c.args.device s) c.args.side damaged
    (c.in-Ok-false.ensures.no honest c.in-Ok-false.field-0-test)
