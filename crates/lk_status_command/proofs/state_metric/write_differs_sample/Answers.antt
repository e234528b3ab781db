use Rattle.std.proofs.Common.{rules, ◌≡◌, ℕ, Some, subst}
use Rattle.std.specs.Io.KnownBytes.{Appends}
use Rattle.std.specs.Prelude.{codes}
use Rattle.lk_probe.specs.Grammar.{flag}
use Rattle.lk_status_command.specs.Metrics.{sample_text}
use Rattle.lk_status_command.proofs.state_metric.write_differs_sample.Goals as goal

pub returns : goal.returns
returns g c =
    let number : c.from.result ≡ flag c.args.differs = search rules in
    subst (λ (n : ℕ). Appends (g.W.Write.contents c.args.out.now) (g.W.Write.contents c.write_sample.new.out)
    (sample_text (codes "state_differs") c.args.inquiry.now (Some c.args.node) c.args.target.now n)) number
    c.in_ok-write_sample.ensures
