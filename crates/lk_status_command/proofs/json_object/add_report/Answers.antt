use Rattle.std.proofs.Common.{[], ◌∷◌, codes}
use Rattle.std.specs.List.{flat_map}
use Rattle.json.specs.Json.{boolean}
use Rattle.lk_status.specs.States.{is_rivalled}
use Rattle.lk_status_command.specs.Fields.{all_fields}
use Rattle.lk_status_command.specs.Json.{array_of, field_entry, node_numbers}
use Rattle.lk_status_command.proofs.Adding.{adds_more, members_more}
use Rattle.lk_status_command.proofs.json_object.add_report.Goals as goal

pub returns : goal.returns
returns c =
    let r = c.args.report.now in
    let numbered = rw (c.from.ensures, c.get.ensures.value) at c.in_ok-add_number.ensures in
    let differs = rw c.is_rivalled.ensures at c.in_ok-add_truth.ensures in
    let members = rw c.as_slice.ensures.value at c.in_ok-add_members.ensures in
    adds_more _ _ _ _ _ numbered (adds_more _ _ _ _ _ c.in_ok-add_program.ensures
    (adds_more _ _ _ _ _ c.in_ok-add_genesis.ensures
    (members_more _ _ _ (flat_map (field_entry r) all_fields)
    ((codes "state_differs", boolean (is_rivalled c.args.reports.now r))
    ∷ (codes "member_nodes", array_of (node_numbers r.status.members)) ∷ [])
    c.in_ok-add_fields.ensures (adds_more _ _ _ _ _ differs members))))
