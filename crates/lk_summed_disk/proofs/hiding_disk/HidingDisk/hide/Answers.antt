use Rattle.lk_summed_disk.proofs.HidingLaws.{hides_more}
use Rattle.lk_summed_disk.proofs.hiding_disk.HidingDisk.hide.Goals as goal

pub returns : goal.returns
returns g c =
    hides_more c.args.side c.args.self.now.hidden c.set.new.self (g.D.LogDisk.disk c.args.self.now.inner)
    c.set.ensures.here c.set.ensures.there
