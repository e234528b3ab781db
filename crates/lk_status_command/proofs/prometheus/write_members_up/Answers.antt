use Rattle.std.proofs.Common.{ℕ, subst}
use Rattle.std.specs.Io.KnownBytes.{Appends}
use Rattle.std.specs.Prelude.{codes}
use Rattle.lk_status_command.specs.Metrics.{gauge_text}
use Rattle.lk_status_command.proofs.prometheus.write_members_up.Goals as goal

pub returns : goal.returns
returns g c =
    subst (λ (n : ℕ). Appends (g.W.Write.contents c.args.out.now) (g.W.Write.contents c.write_gauge.new.out)
    (gauge_text c.args.cluster (codes "members_up") (codes "Members that answer.") n))
    c.members_up.ensures c.in_ok-write_gauge.ensures
