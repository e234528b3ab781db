use Rattle.std.proofs.Common.{◌≡◌, ◌↔◌, true, subst}
use Rattle.lk_disk.specs.Disk.{Disk, contents}
use Rattle.lk_disk.specs.declared.device.Side.TheVariants.{B}
use Rattle.lk_summed_disk.specs.Beginnings.{HasBegun}
use Rattle.lk_summed_disk.proofs.OptionLaws.{is_wanted}
use Rattle.lk_summed_disk.proofs.optional_sums.is_wanted.Goals as goal

pub returns-clause-value : goal.returns-clause-value
returns-clause-value g c honest =
    is_wanted c.args.asked c.is_either.result c.in_ok-a.a c.in_ok-b.b (g.D.LogDisk.disk c.args.device.now)
    (c.in_ok-a.ensures.value honest)
    (subst (λ (d : Disk). c.in_ok-b.b ≡ true ↔ HasBegun B (contents d)) (c.in_ok-a.ensures.unchanged honest B)
    (c.in_ok-b.ensures.value honest))
    c.is_either.ensures.asked c.is_either.ensures.a c.is_either.ensures.b c.is_either.ensures.neither
