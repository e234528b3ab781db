use Rattle.std.proofs.Common.{sym, ◌∙◌}
use Rattle.lk_status.proofs.Serving.{is_right, is_shown}
use Rattle.lk_status.proofs.verdict.is_served.Goals as goal

pub returns-clause-served : goal.returns-clause-served
returns-clause-served c = (
  λ is. is_right c.args.reports.now (sym c.is_quorate.ensures ∙ is),
  λ s. c.is_quorate.ensures ∙ is_shown c.args.reports.now s,
)
