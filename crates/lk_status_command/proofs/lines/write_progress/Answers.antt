use Rattle.std.proofs.Common.{ℕ, subst}
use Rattle.std.specs.Io.KnownBytes.{Appends}
use Rattle.lk_status_command.specs.Lines.{behind_text}
use Rattle.lk_types.proofs.Appending.{appends_more}
use Rattle.lk_status_command.proofs.lines.write_progress.Goals as goal

pub returns : goal.returns
returns g c =
    let behind = subst (λ (n : ℕ). Appends (g.W.Write.contents c.write_executed.new.out)
    (g.W.Write.contents c.write_behind.new.out) (behind_text n c.args.most)) c.get.ensures.value
    c.in_ok-write_behind.ensures in
    appends_more _ _ _ _ _ c.in_ok-write_executed.ensures
    (appends_more _ _ _ _ _ behind
    (appends_more _ _ _ _ _ c.in_ok-write_promised.ensures c.in_ok-write_snapshot.ensures))
