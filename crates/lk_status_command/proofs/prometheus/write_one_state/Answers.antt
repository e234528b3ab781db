use Rattle.std.proofs.Common.{Bool, subst}
use Rattle.std.specs.Io.KnownBytes.{Appends}
use Rattle.std.specs.Prelude.{codes}
use Rattle.lk_probe.specs.Grammar.{flag}
use Rattle.lk_status_command.specs.Metrics.{gauge_text}
use Rattle.lk_status_command.proofs.prometheus.write_one_state.Goals as goal

pub returns : goal.returns
returns g c =
    subst (λ (is : Bool). Appends (g.W.Write.contents c.args.out.now) (g.W.Write.contents c.write_flag.new.out)
    (gauge_text c.args.cluster (codes "one_state")
    (codes "Whether no two nodes hold different states at one position.") (flag is)))
    c.has_one_state.ensures c.in_ok-write_flag.ensures
