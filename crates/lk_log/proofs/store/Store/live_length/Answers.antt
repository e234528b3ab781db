use Rattle.std.proofs.Common.{subst, rules}
use Rattle.lk_disk.specs.Meters.{CallsSucceed, start}
use Rattle.lk_disk.proofs.Devices.{read_passes, read_breaks}
use Rattle.lk_log.specs.Causes.{IsMetered}
use Rattle.lk_log.specs.StoreValue.{StoreValue}
use Rattle.lk_log.specs.declared.fault.StoreFault.TheVariants.{Device}
use Rattle.lk_log.proofs.Metering.{refused}
use Rattle.lk_log.proofs.store.Store.live_length.Goals as goal

pub returns-then-self-clause-metered : goal.returns-then-self-clause-metered
returns-then-self-clause-metered g c metered = (0, start)

pub returns-in_err-length-clause-metered : goal.returns-in_err-length-clause-metered
returns-in_err-length-clause-metered g c metered =
    subst (λ (s : StoreValue). IsMetered s.meter (g.D.LogDisk.meter c.length.new.self) 0 c.from_residual.result)
    c.self.view_is
    (refused _ _ 0 _ Device c.from_residual.ensures.1 (read_breaks _ _ (c.in_err-length.ensures.metered metered)))

pub returns-clause-metered : goal.returns-clause-metered
returns-clause-metered g c metered =
    subst (λ (s : StoreValue). CallsSucceed s.meter (g.D.LogDisk.meter c.length.new.self) 0) c.self.view_is
    (read_passes _ _ (c.in_ok-length.ensures.metered metered))

pub returns-clause-value : goal.returns-clause-value
returns-clause-value g c = search rules
