use Rattle.std.proofs.Common.{ap, subst, ◌∙◌, length}
use Rattle.lk_disk.specs.Disk.{Disk, contents}
use Rattle.lk_disk.specs.declared.device.Side.TheVariants.{A, B}
use Rattle.lk_store_format.specs.Files.{IsFile}
use Rattle.lk_log.specs.Images.{seen}
use Rattle.lk_log.specs.StoreValue.{pick}
use Rattle.lk_log.specs.declared.verdict.Verdict.TheVariants.{Damaged, Empty}
use Rattle.lk_log.proofs.ImageLaws.{means_of, found_a, found_b}
use Rattle.lk_log.proofs.opening.find.Goals as goal
use Rattle.lk_disk.proofs.Devices.{passes_on}
use Rattle.lk_log.proofs.OpenMetering.{refused, refused_on}

pub returns-in-Damaged-clause-damaged : goal.returns-in-Damaged-clause-damaged
returns-in-Damaged-clause-damaged g c honest e =
    let old = g.D.LogDisk.disk c.args.device.now in
    let at_b = subst (λ (d : Disk). IsFile (contents d) c.in_ok-b.b.entries.items c.in_ok-b.b.is_damaged)
    (c.read_file.ensures.unchanged honest B) (c.in_ok-b.ensures.file honest) in (
      pick A c.in_ok-a.a.entries.items c.in_ok-b.b.entries.items,
      means_of (seen old) c.in_ok-a.a.entries.items c.in_ok-b.b.entries.items c.in_ok-a.a.is_damaged
          c.in_ok-b.b.is_damaged Damaged (c.in_ok-a.ensures.file honest) at_b c.in-Damaged.ensures,
    )

pub returns-in-Empty-clause-empty : goal.returns-in-Empty-clause-empty
returns-in-Empty-clause-empty g c honest e =
    let old = g.D.LogDisk.disk c.args.device.now in
    let at_b = subst (λ (d : Disk). IsFile (contents d) c.in_ok-b.b.entries.items c.in_ok-b.b.is_damaged)
    (c.read_file.ensures.unchanged honest B) (c.in_ok-b.ensures.file honest) in (
      pick A c.in_ok-a.a.entries.items c.in_ok-b.b.entries.items,
      means_of (seen old) c.in_ok-a.a.entries.items c.in_ok-b.b.entries.items c.in_ok-a.a.is_damaged
          c.in_ok-b.b.is_damaged Empty (c.in_ok-a.ensures.file honest) at_b c.in-Empty.ensures,
    )

pub returns-in-Live-A-clause-live : goal.returns-in-Live-A-clause-live
returns-in-Live-A-clause-live g c honest =
    let old = g.D.LogDisk.disk c.args.device.now in
    let at_b = subst (λ (d : Disk). IsFile (contents d) c.in_ok-b.b.entries.items c.in_ok-b.b.is_damaged)
    (c.read_file.ensures.unchanged honest B) (c.in_ok-b.ensures.file honest) in
    let is = rw c.in-Live-A.field-0-is at c.in-Live-A.ensures in
    found_a old c.in_ok-a.a.entries.items c.in_ok-b.b.entries.items c.in_ok-a.a.is_damaged c.in_ok-b.b.is_damaged
    c.in_ok-a.a.end c.in_ok-a.a.size (c.in_ok-a.ensures.file honest) at_b is c.in_ok-a.ensures.end
    (c.in_ok-a.ensures.size honest)

pub returns-in-Live-B-clause-live : goal.returns-in-Live-B-clause-live
returns-in-Live-B-clause-live g c honest =
    let old = g.D.LogDisk.disk c.args.device.now in
    let same = c.read_file.ensures.unchanged honest B in
    let at_b = subst (λ (d : Disk). IsFile (contents d) c.in_ok-b.b.entries.items c.in_ok-b.b.is_damaged) same
    (c.in_ok-b.ensures.file honest) in
    let is = rw c.in-Live-B.field-0-is at c.in-Live-B.ensures in
    found_b old c.in_ok-a.a.entries.items c.in_ok-b.b.entries.items c.in_ok-a.a.is_damaged c.in_ok-b.b.is_damaged
    c.in_ok-b.b.end c.in_ok-b.b.size (c.in_ok-a.ensures.file honest) at_b is c.in_ok-b.ensures.end
    (c.in_ok-b.ensures.size honest ∙ ap (λ (d : Disk). length (contents d)) same)

-- ---- which calls were made

pub returns-in_err-b-clause-metered : goal.returns-in_err-b-clause-metered
returns-in_err-b-clause-metered g c metered honest =
    refused _ _ 0 _ _ c.from_residual-in_err-b.ensures.1
    (refused_on 0 (c.in_ok-a.ensures.metered metered honest) _ _ (c.in_err-b.ensures.metered metered honest))

pub returns-in-Damaged-clause-metered : goal.returns-in-Damaged-clause-metered
returns-in-Damaged-clause-metered g c metered honest =
    (0, passes_on 0 (c.in_ok-a.ensures.metered metered honest) 0 (c.in_ok-b.ensures.metered metered honest))

pub returns-in-Empty-clause-metered : goal.returns-in-Empty-clause-metered
returns-in-Empty-clause-metered g c metered honest =
    passes_on 0 (c.in_ok-a.ensures.metered metered honest) 0 (c.in_ok-b.ensures.metered metered honest)

pub returns-in-Live-A-clause-metered : goal.returns-in-Live-A-clause-metered
returns-in-Live-A-clause-metered g c metered honest =
    passes_on 0 (c.in_ok-a.ensures.metered metered honest) 0 (c.in_ok-b.ensures.metered metered honest)

pub returns-in-Live-B-clause-metered : goal.returns-in-Live-B-clause-metered
returns-in-Live-B-clause-metered g c metered honest =
    passes_on 0 (c.in_ok-a.ensures.metered metered honest) 0 (c.in_ok-b.ensures.metered metered honest)
