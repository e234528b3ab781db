use Rattle.std.proofs.Common.{List, [], ℕ, Option, ap, subst}
use Rattle.std.specs.Io.KnownBytes.{Appends}
use Rattle.lk_probe.specs.declared.probe.Report.{Report}
use Rattle.lk_status.specs.Rounds.{report_of}
use Rattle.lk_status.specs.declared.target.Target.{Target}
use Rattle.lk_status_command.specs.Lines.{target_line}
use Rattle.lk_status_command.specs.Tokens.{by_token}
use Rattle.lk_types.proofs.Appending.{appends_nothing}
use Rattle.lk_status_command.proofs.Writing.{next_item, targets_more, targets_done}
use Rattle.lk_status_command.proofs.lines.write_targets.Goals as goal

pub targets-init : goal.targets-init
targets-init g c = (
  [],
  appends_nothing _,
  ap (λ (ts : List Target). by_token (λ (token : ℕ) (t : Target). target_line c.args.inquiry.now t
      (report_of token c.args.reports.now) c.args.most) c.args.first ts) c.as_slice-targets.ensures.value,
)

pub targets-preserved : goal.targets-preserved
targets-preserved g c =
    let t = c.target-item.result in
    let targets = c.as_slice-targets.result.now in
    let text = λ (token : ℕ) (t : Target). target_line c.args.inquiry.now t
    (report_of token c.args.reports.now) c.args.most in
    let written = subst (λ (r : Option Report). Appends (g.W.Write.contents c.targets.out)
    (g.W.Write.contents c.write_target.new.out) (target_line c.args.inquiry.now t r c.args.most))
    c.report_with.ensures.report c.in_ok-write_target.ensures in
    targets_more text _ _ _ _ c.targets.token targets c.targets.target-index t
    (next_item targets c.targets.target-index t c.targets-test.true c.target-item.is)
    c.targets.invariant written

pub returns : goal.returns
returns g c =
    targets_done (λ (token : ℕ) (t : Target). target_line c.args.inquiry.now t
    (report_of token c.args.reports.now) c.args.most)
    _ _ _ c.targets.token c.as_slice-targets.result.now c.targets.target-index c.targets-test.false c.targets.invariant
