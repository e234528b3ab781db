use Rattle.std.proofs.Common.{List, ap, codes}
use Rattle.std.proofs.lemmas.List.{drop_all}
use Rattle.std.specs.List.{flat_map}
use Rattle.json.specs.Tree.{json_tokens}
use Rattle.lk_status.specs.declared.target.Target.{Target}
use Rattle.lk_status_command.specs.Json.{targets_json}
use Rattle.lk_status_command.proofs.Adding.{all_added, array_added, taken}
use Rattle.lk_status_command.proofs.json_object.add_targets.Goals as goal

pub returns : goal.returns
returns c =
    let rs = c.args.reports.now in
    let ts = c.args.targets.now in
    array_added _ _ _ _ _ (codes "nodes") (targets_json rs c.args.first ts)
    (taken _ _ _ _ c.in_ok-key.ensures) (taken _ _ _ _ c.in_ok-begin_array.ensures)
    (all_added c.begin_array.new.self c.targets.out _ _ c.targets.invariant
    (ap (λ (rest : List Target). flat_map json_tokens (targets_json rs c.targets.token rest))
    (drop_all c.targets.target-index ts c.targets-test.false)))
    (taken _ _ _ _ c.in_ok-end_array.ensures)
