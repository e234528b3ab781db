use Rattle.std.proofs.Common.{ap, Ok}
use Rattle.lk_log.specs.Images.{seen}
use Rattle.lk_inspect.proofs.Dumping.{dumped}
use Rattle.lk_inspect.proofs.dump.dump_device.Goals as goal

pub returns-clause-printed : goal.returns-clause-printed
returns-clause-printed g c honest =
    dumped c.args.sums (seen (g.D.LogDisk.disk c.args.device.now)) c.in_ok-found.found c.in-Ok.is_store
    _ _ _ (c.in_ok-found.ensures.some honest) (λ none. c.in_ok-found.ensures.none honest (ap Ok none))
    c.in-Ok.ensures.value c.in-Ok.ensures.text c.flush.ensures.bytes
