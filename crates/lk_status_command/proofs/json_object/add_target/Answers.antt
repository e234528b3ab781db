use Rattle.std.proofs.Common.{true, false, [], ◌∷◌, codes}
use Rattle.json.specs.Json.{boolean}
use Rattle.lk_status_command.specs.Json.{report_entries, whole}
use Rattle.lk_status_command.proofs.Adding.{adds_more, object_added, taken}
use Rattle.lk_status_command.proofs.json_object.add_target.Goals.{in-Some+in_ok-add_report, in_default}
use Rattle.lk_status_command.proofs.json_object.add_target.Goals as goal

pub returns : goal.returns
returns c =
    let opened = taken _ _ _ _ c.in_ok-begin_object.ensures in
    let closed = taken _ _ _ _ c.in_ok-end_object.ensures in
    let begun = adds_more _ _ _ _ _ (rw c.from.ensures at c.in_ok-add_number.ensures)
    (rw c.is_some.ensures at c.in_ok-add_truth.ensures) in
    elim c.match-report.branch [
      | in-Some+in_ok-add_report w ↦
          rw w.in-Some.is (object_added _ _ _ _
          ((codes "port", whole c.args.port) ∷ (codes "up", boolean true)
          ∷ report_entries c.args.reports.now w.in-Some.report.now)
          opened (rw w.out-is (adds_more _ _ _ _ _ (rw w.in-Some.is at begun) w.in_ok-add_report.ensures)) closed)
      | in_default w ↦
          rw w.in_default.is (object_added _ _ _ _
          ((codes "port", whole c.args.port) ∷ (codes "up", boolean false) ∷ [])
          opened (rw w.out-is (rw w.in_default.is at begun)) closed)
    ]
