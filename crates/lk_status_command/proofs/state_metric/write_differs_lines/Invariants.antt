use Rattle.std.proofs.Common.{ℕ, drop}
use Rattle.lk_status.specs.Rounds.{report_of}
use Rattle.lk_status.specs.declared.target.Target.{Target}
use Rattle.lk_status_command.specs.Metrics.{differs_line, differs_lines}
use Rattle.lk_status_command.proofs.Writing.{SoFar}
use Rattle.lk_status_command.proofs.state_metric.write_differs_lines.Given as goal

-- with those that are left, what was written are all
abbrev pub invariant-targets : goal.invariant-targets
invariant-targets g l =
    SoFar (λ (token : ℕ) (t : Target). differs_line l.inquiry l.reports t (report_of token l.reports))
    (g.W.Write.contents l.initial.out) (g.W.Write.contents l.out)
    (differs_lines l.fn.first l.inquiry l.reports) l.token (drop l.target-index l.targets)
