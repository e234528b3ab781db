use Rattle.std.proofs.Common.{ℕ, subst}
use Rattle.std.specs.Io.KnownBytes.{Appends}
use Rattle.lk_status_command.specs.Lines.{target_lines}
use Rattle.lk_types.proofs.Appending.{appends_more}
use Rattle.lk_status_command.proofs.lines.write_lines.Goals as goal

pub returns : goal.returns
returns g c =
    appends_more _ _ _ _ _
    (subst (λ (most : ℕ). Appends (g.W.Write.contents c.args.out.now) (g.W.Write.contents c.write_targets.new.out)
    (target_lines c.args.first c.args.inquiry.now c.args.reports.now most)) c.executed_of.ensures
    c.in_ok-write_targets.ensures)
    c.in_ok-write_cluster.ensures
