use Rattle.std.proofs.Common.{Bool, List, [], ℕ, ap, subst}
use Rattle.std.specs.Io.KnownBytes.{Appends}
use Rattle.lk_status.specs.Rounds.{has_token}
use Rattle.lk_status.specs.declared.target.Target.{Target}
use Rattle.lk_status_command.specs.Metrics.{up_line}
use Rattle.lk_status_command.specs.Tokens.{by_token}
use Rattle.lk_types.proofs.Appending.{appends_nothing}
use Rattle.lk_status_command.proofs.Writing.{next_item, targets_more, targets_done}
use Rattle.lk_status_command.proofs.prometheus.write_up_lines.Goals as goal

pub targets-init : goal.targets-init
targets-init g c = (
  [],
  appends_nothing _,
  ap (λ (ts : List Target). by_token (λ (token : ℕ) (t : Target). up_line c.args.inquiry.now t
      (has_token token c.args.reports.now)) c.args.first ts) c.as_slice-targets.ensures.value,
)

pub targets-preserved : goal.targets-preserved
targets-preserved g c =
    let t = c.target-item.result in
    let targets = c.as_slice-targets.result.now in
    let text = λ (token : ℕ) (t : Target). up_line c.args.inquiry.now t (has_token token c.args.reports.now) in
    let written = subst (λ (is : Bool). Appends (g.W.Write.contents c.targets.out)
    (g.W.Write.contents c.write_up_line.new.out) (up_line c.args.inquiry.now t is)) c.is_reported.ensures
    c.in_ok-write_up_line.ensures in
    targets_more text _ _ _ _ c.targets.token targets c.targets.target-index t
    (next_item targets c.targets.target-index t c.targets-test.true c.target-item.is)
    c.targets.invariant written

pub returns : goal.returns
returns g c =
    targets_done (λ (token : ℕ) (t : Target). up_line c.args.inquiry.now t (has_token token c.args.reports.now))
    _ _ _ c.targets.token c.as_slice-targets.result.now c.targets.target-index c.targets-test.false c.targets.invariant
