use Rattle.std.proofs.Common.{ℕ, drop}
use Rattle.lk_status.specs.Rounds.{has_token}
use Rattle.lk_status.specs.declared.target.Target.{Target}
use Rattle.lk_status_command.specs.Metrics.{up_line, up_lines}
use Rattle.lk_status_command.proofs.Writing.{SoFar}
use Rattle.lk_status_command.proofs.prometheus.write_up_lines.Given as goal

-- with those that are left, what was written are all
abbrev pub invariant-targets : goal.invariant-targets
invariant-targets g l =
    SoFar (λ (token : ℕ) (t : Target). up_line l.inquiry t (has_token token l.reports))
    (g.W.Write.contents l.initial.out) (g.W.Write.contents l.out)
    (up_lines l.fn.first l.inquiry l.reports) l.token (drop l.target-index l.targets)
