use Rattle.std.proofs.Common.{Ok, Option, IfSome, ℕ, ap, subst}
use Rattle.lk_disk.specs.Disk.{contents}
use Rattle.lk_node_files.specs.Older.{BeginsWith, HasGeneration}
use Rattle.lk_node_files.proofs.OpeningLaws.{one_ok}
use Rattle.lk_node_files.proofs.OutdatedLaws.{is_outdated, none_newer, not_below}
use Rattle.lk_node_files.proofs.outdated.is_outdated.Goals as goal

pub returns-in_default-clause-no : goal.returns-in_default-clause-no
returns-in_default-clause-no g c honest _ outdated =
    c.in_ok-own.ensures.none honest (ap Ok c.in_default.is) outdated.below.own outdated.below.has_own

pub returns-in_default-2-clause-no : goal.returns-in_default-2-clause-no
returns-in_default-2-clause-no g c honest _ =
    none_newer (g.D.LogDisk.disk c.args.device.now) (g.D.LogDisk.disk c.plain_generation_at.new.device) c.args.side
    c.other-beside.result (c.plain_generation_at.ensures.unchanged honest) c.other-beside.ensures
    (c.in_ok-newer.ensures.none honest (ap Ok c.in_default-2.is))

pub returns-then-newer-own-clause-no : goal.returns-then-newer-own-clause-no
returns-then-newer-own-clause-no g c honest _ =
    let d = g.D.LogDisk.disk c.args.device.now in
    let e = g.D.LogDisk.disk c.plain_generation_at.new.device in
    not_below d e c.args.side c.other-beside.result c.in-Some.own c.in-Some-2.newer
    (c.plain_generation_at.ensures.unchanged honest) c.other-beside.ensures
    (subst (λ (o : Option ℕ). IfSome o (λ (n : ℕ). BeginsWith n (contents (d c.args.side)))) c.in-Some.is
    (c.in_ok-own.ensures.some honest))
    (subst (λ (o : Option ℕ). IfSome o (HasGeneration e c.other-beside.result)) c.in-Some-2.is
    (c.in_ok-newer.ensures.some honest)) c.if-newer-own.true

pub returns-clause-yes : goal.returns-clause-yes
returns-clause-yes g c honest =
    let d = g.D.LogDisk.disk c.args.device.now in
    let e = g.D.LogDisk.disk c.plain_generation_at.new.device in
    let f = g.D.LogDisk.disk c.generation_at.new.device in
    one_ok c.is_sound.result
    (λ it sound is. is_outdated d e f c.args.side c.other-beside.result c.in-Some.own c.in-Some-2.newer
    (c.plain_generation_at.ensures.unchanged honest) (c.generation_at.ensures.unchanged honest) c.other-beside.ensures
    (subst (λ (o : Option ℕ). IfSome o (λ (n : ℕ). BeginsWith n (contents (d c.args.side)))) c.in-Some.is
    (c.in_ok-own.ensures.some honest))
    (subst (λ (o : Option ℕ). IfSome o (HasGeneration e c.other-beside.result)) c.in-Some-2.is
    (c.in_ok-newer.ensures.some honest)) c.if-newer-own.false (sound is))
    (c.is_sound.ensures.yes honest)
