use Rattle.std.proofs.Common.{◌∙◌, Option, subst, sym, ap, length}
use Rattle.lk_disk.specs.Disk.{Disk, contents}
use Rattle.lk_summed_disk.specs.Places.{Holds}
use Rattle.lk_summed_disk.specs.SummedValue.{SummedValue, disk_at}
use Rattle.lk_summed_disk.specs.declared.place.Place.{Place}
use Rattle.lk_summed_disk.proofs.DiskLaws.{place_length, disk_over}
use Rattle.lk_summed_disk.proofs.summed_disk.SummedDiskLogDisk.length.Goals as goal

pub returns-in-Some-clause-value : goal.returns-in-Some-clause-value
returns-in-Some-clause-value g c honest =
    let s = c.args.side in
    let disks = g.D.LogDisk.disk c.self.inside.inner in
    let holds = subst (λ (o : Option Place). Holds s (contents (disks s)) o) (sym c.at.ensures ∙ c.in-Some.is)
    (c.self.invariant honest s) in
    place_length s (disks s) c.in-Some.place holds
    ∙ ap (λ (d : Disk). length (contents d))
    (sym (disk_over disks c.self.inside.sums c.self.inside.failures s))
    ∙ ap (λ (v : SummedValue). length (contents (disk_at v s))) c.self.view_is
