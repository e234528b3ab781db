use Rattle.std.proofs.Common.{rules}
use Rattle.lk_store_format.specs.Entries.{plain}
use Rattle.lk_log.proofs.Steps.{keeps_at}
use Rattle.lk_log.proofs.store.Store.put.Goals as goal
use Rattle.lk_disk.specs.Meters.{start}

-- nothing was written
pub returns-then-self-clause-every_image : goal.returns-then-self-clause-every_image
returns-then-self-clause-every_image g c honest ks ls holds =
    keeps_at c.args.self.now.live c.args.self.now.live_disk c.args.self.now.other_disk ks ls
    (plain c.args.entries.now) holds.on

pub returns-then-self-clause-metered : goal.returns-then-self-clause-metered
returns-then-self-clause-metered g c metered = (0, start)

pub returns-in_err-add-clause-failing : goal.returns-in_err-add-clause-failing
returns-in_err-add-clause-failing g c = search rules
