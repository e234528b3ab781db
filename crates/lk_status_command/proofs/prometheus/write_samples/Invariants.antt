use Rattle.std.proofs.Common.{ℕ, drop}
use Rattle.lk_status.specs.Rounds.{report_of}
use Rattle.lk_status.specs.declared.target.Target.{Target}
use Rattle.lk_status_command.specs.Metrics.{sample_line, sample_lines}
use Rattle.lk_status_command.proofs.Writing.{SoFar}
use Rattle.lk_status_command.proofs.prometheus.write_samples.Given as goal

-- with those that are left, what was written are all
abbrev pub invariant-targets : goal.invariant-targets
invariant-targets g l =
    SoFar (λ (token : ℕ) (t : Target). sample_line l.field l.inquiry t (report_of token l.reports))
    (g.W.Write.contents l.initial.out) (g.W.Write.contents l.out)
    (sample_lines l.field l.fn.first l.inquiry l.reports) l.token (drop l.target-index l.targets)
