use Rattle.std.proofs.Common.{Option, Ok, ℕ, IfSome, subst, ap}
use Rattle.std.proofs.lemmas.Bool.{ltb-true, ltb-false}
use Rattle.lk_node_files.specs.Older.{HasGeneration}
use Rattle.lk_node_files.proofs.OlderLaws.{is_older, not_older, not_known}
use Rattle.lk_node_files.proofs.older.is_older.Goals as goal

pub returns-in_default-clause-no : goal.returns-in_default-clause-no
returns-in_default-clause-no g c honest _ older =
    c.in_ok-own.ensures.none honest (ap Ok c.in_default.is) older.2.own (older.0, older.2.has_own)

pub returns-in_default-2-clause-no : goal.returns-in_default-2-clause-no
returns-in_default-2-clause-no g c honest _ older =
    not_known (g.D.LogDisk.disk c.args.device.now) (g.D.LogDisk.disk c.generation_at.new.device) c.args.side
    c.other.result (c.generation_at.ensures.unchanged honest) c.other.ensures
    (c.in_ok-newer.ensures.none honest (ap Ok c.in_default-2.is)) older

pub returns-clause-yes : goal.returns-clause-yes
returns-clause-yes g c honest below =
    let d = g.D.LogDisk.disk c.args.device.now in
    let e = g.D.LogDisk.disk c.generation_at.new.device in
    is_older d e c.args.side c.other.result c.in-Some.own c.in-Some-2.newer (c.generation_at.ensures.unchanged honest)
    c.other.ensures
    (subst (λ (o : Option ℕ). IfSome o (HasGeneration d c.args.side)) c.in-Some.is (c.in_ok-own.ensures.some honest))
    (subst (λ (o : Option ℕ). IfSome o (HasGeneration e c.other.result)) c.in-Some-2.is
    (c.in_ok-newer.ensures.some honest)) (ltb-true c.in-Some.own c.in-Some-2.newer below)

pub returns-clause-no : goal.returns-clause-no
returns-clause-no g c honest above older =
    let d = g.D.LogDisk.disk c.args.device.now in
    let e = g.D.LogDisk.disk c.generation_at.new.device in
    not_older d e c.args.side c.other.result c.in-Some.own c.in-Some-2.newer (c.generation_at.ensures.unchanged honest)
    c.other.ensures
    (subst (λ (o : Option ℕ). IfSome o (HasGeneration d c.args.side)) c.in-Some.is (c.in_ok-own.ensures.some honest))
    (subst (λ (o : Option ℕ). IfSome o (HasGeneration e c.other.result)) c.in-Some-2.is
    (c.in_ok-newer.ensures.some honest)) (ltb-false c.in-Some.own c.in-Some-2.newer above) older
