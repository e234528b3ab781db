use Rattle.std.proofs.Common.{◌∙◌, length, sym, ap}
use Rattle.lk_disk.specs.Disk.{Disk, contents}
use Rattle.lk_disk.specs.declared.device.Side.TheVariants.{A, B}
use Rattle.lk_summed_disk.specs.Places.{is_summed}
use Rattle.lk_summed_disk.specs.Readers.{decoded}
use Rattle.lk_summed_disk.proofs.DiskLaws.{place_length}
use Rattle.lk_summed_disk.proofs.OptionLaws.{turns_on}
use Rattle.lk_summed_disk.proofs.summed_disk.SummedDisk.open.Goals as goal

pub returns-in-Ok-clause-on : goal.returns-in-Ok-clause-on
returns-in-Ok-clause-on g c honest =
    turns_on c.args.sums c.is_on.result (is_summed c.in-Ok.a.form) (is_summed c.in-Ok.b.form)
    (g.D.LogDisk.disk c.args.inner) (c.in-Ok.ensures.has_a honest) (c.in-Ok.ensures.has_b honest)
    c.is_on.ensures.asked c.is_on.ensures.a c.is_on.ensures.b c.is_on.ensures.neither

pub returns-in-Ok-clause-a : goal.returns-in-Ok-clause-a
returns-in-Ok-clause-a g c honest =
    place_length A (g.D.LogDisk.disk c.args.inner A) c.in-Ok.a (c.in-Ok.ensures.a honest)
    ∙ ap (λ (d : Disk). length (contents (decoded A d))) (sym (c.in-Ok.ensures.unchanged honest A))

pub returns-in-Ok-clause-b : goal.returns-in-Ok-clause-b
returns-in-Ok-clause-b g c honest =
    place_length B (g.D.LogDisk.disk c.args.inner B) c.in-Ok.b (c.in-Ok.ensures.b honest)
    ∙ ap (λ (d : Disk). length (contents (decoded B d))) (sym (c.in-Ok.ensures.unchanged honest B))
