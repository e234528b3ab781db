use Rattle.std.proofs.Common.{◌∙◌, ap}
use Rattle.lk_disk.specs.Disk.{one_more}
use Rattle.lk_summed_disk.specs.GatheredValue.{GatheredValue, gathered_at}
use Rattle.lk_summed_disk.proofs.WaitLaws.{appends_none, counted_at}
use Rattle.lk_summed_disk.proofs.gathered_disk.GatheredDiskLogDisk.append.Goals as goal

pub returns-in-Err-clause-err : goal.returns-in-Err-clause-err
returns-in-Err-clause-err g c honest =
    appends_none c.args.piece.now (gathered_at c.args.self.now c.args.side) (gathered_at c.fail.new.self c.args.side)
    (ap (λ (v : GatheredValue). gathered_at v c.args.side) c.fail.ensures
    ∙ counted_at c.keep.new.self (one_more c.keep.new.self.failures) c.args.side ∙ c.in-Err.ensures.err honest)
