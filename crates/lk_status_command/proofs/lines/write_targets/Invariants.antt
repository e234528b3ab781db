use Rattle.std.proofs.Common.{ℕ, drop}
use Rattle.lk_status.specs.Rounds.{report_of}
use Rattle.lk_status.specs.declared.target.Target.{Target}
use Rattle.lk_status_command.specs.Lines.{target_line, target_lines}
use Rattle.lk_status_command.proofs.Writing.{SoFar}
use Rattle.lk_status_command.proofs.lines.write_targets.Given as goal

-- with the lines that are left, what was written are all lines
abbrev pub invariant-targets : goal.invariant-targets
invariant-targets g l =
    SoFar (λ (token : ℕ) (t : Target). target_line l.inquiry t (report_of token l.reports) l.most)
    (g.W.Write.contents l.initial.out) (g.W.Write.contents l.out)
    (target_lines l.fn.first l.inquiry l.reports l.most) l.token (drop l.target-index l.targets)
