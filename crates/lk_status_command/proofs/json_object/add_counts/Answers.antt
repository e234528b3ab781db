use Rattle.lk_status_command.proofs.Adding.{adds_more}
use Rattle.lk_status_command.proofs.json_object.add_counts.Goals as goal

pub returns-in_ok-add_number-2 : goal.returns-in_ok-add_number-2
returns-in_ok-add_number-2 c =
    let added = adds_more _ _ _ _ _ c.in_ok-add_number.ensures c.in_ok-add_number-2.ensures in
    rw c.in-Some.is (rw (c.count_reporting.ensures.value, c.as_slice-members.ensures.value) at added)
