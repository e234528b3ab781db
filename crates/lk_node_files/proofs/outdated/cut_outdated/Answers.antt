use Rattle.std.proofs.Common.{Option, IfSome, subst}
use Rattle.lk_disk.specs.declared.device.Side.{Side}
use Rattle.lk_node_files.specs.Outdated.{IsOutdated}
use Rattle.lk_node_files.proofs.OutdatedLaws.{cuts_some, on_err}
use Rattle.lk_node_files.proofs.outdated.cut_outdated.Goals as goal

pub returns-in_err-cut_beside-in-Some-clause-err : goal.returns-in_err-cut_beside-in-Some-clause-err
returns-in_err-cut_beside-in-Some-clause-err g c honest =
    let d = g.D.LogDisk.disk c.args.device.now in
    on_err c.from_residual-in_err-cut_beside-in-Some.result
    (cuts_some d (g.D.LogDisk.disk c.find_outdated.new.device) (g.D.LogDisk.disk c.cut_beside.new.device)
    c.in-Some.side (c.find_outdated.ensures.unchanged honest)
    (subst (λ (o : Option Side). IfSome o (IsOutdated d)) c.in-Some.is (c.in_ok-side.ensures.some honest))
    (c.in_err-cut_beside-in-Some.ensures.err honest))
