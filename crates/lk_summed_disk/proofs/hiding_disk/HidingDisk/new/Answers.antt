use Rattle.std.proofs.Common.{false, refl}
use Rattle.lk_summed_disk.proofs.HidingLaws.{shows_all}
use Rattle.lk_summed_disk.proofs.hiding_disk.HidingDisk.new.Goals as goal

pub returns : goal.returns
returns g c = shows_all (record { a = false; b = false }) (g.D.LogDisk.disk c.args.inner) refl refl
