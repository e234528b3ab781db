use Rattle.std.proofs.Common.{Bool, subst}
use Rattle.std.specs.Io.KnownBytes.{Appends}
use Rattle.std.specs.Prelude.{codes}
use Rattle.lk_probe.specs.Grammar.{flag}
use Rattle.lk_status_command.specs.Metrics.{gauge_text}
use Rattle.lk_status_command.proofs.prometheus.write_served.Goals as goal

pub returns : goal.returns
returns g c =
    subst (λ (is : Bool). Appends (g.W.Write.contents c.args.out.now) (g.W.Write.contents c.write_flag.new.out)
    (gauge_text c.args.cluster (codes "served")
    (codes "Whether a majority follows a leader, and nobody tells another genesis.") (flag is)))
    c.is_served.ensures.value c.in_ok-write_flag.ensures
