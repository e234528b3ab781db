use Rattle.std.proofs.Common.{[], ◌∷◌, ◌++◌, List, codes}
use Rattle.std.specs.Option.{option_copied}
use Rattle.json.specs.Json.{boolean}
use Rattle.lk_status.specs.States.{one_state}
use Rattle.lk_status.specs.Verdicts.{is_served, one_genesis}
use Rattle.lk_status_command.specs.Json.{Entry, array_of, count_entries, targets_json, whole}
use Rattle.lk_status_command.proofs.Adding.{adds_more, members_more, object_added, taken}
use Rattle.lk_status_command.proofs.json_object.add_status.Goals as goal

pub returns : goal.returns
returns c =
    let i = c.args.inquiry.now in
    let rs = c.args.reports.now in
    let verdict : List Entry = (codes "cluster", whole i.cluster) ∷ (codes "served", boolean (is_served rs))
    ∷ (codes "one_genesis", boolean (one_genesis rs)) ∷ (codes "one_state", boolean (one_state rs)) ∷ [] in
    let counts : List Entry = count_entries (option_copied c.args.measure) rs in
    let nodes : List Entry = (codes "nodes", array_of (targets_json rs c.args.first i.targets.items)) ∷ [] in
    let judged = adds_more _ _ _ _ _ c.in_ok-add_number.ensures (adds_more _ _ _ _ _ c.in_ok-add_truth.ensures
    (adds_more _ _ _ _ _ c.in_ok-add_truth-2.ensures c.in_ok-add_truth-3.ensures)) in
    object_added _ _ _ _ (verdict ++ (counts ++ nodes)) (taken _ _ _ _ c.in_ok-begin_object.ensures)
    (members_more _ _ _ verdict (counts ++ nodes)
    (rw (c.is_served.ensures.value, c.has_one_genesis.ensures, c.has_one_state.ensures) at judged)
    (members_more _ _ _ counts nodes c.in_ok-add_counts.ensures
    (rw c.as_slice.ensures.value at c.in_ok-add_targets.ensures)))
    (taken _ _ _ _ c.in_ok-end_object.ensures)
