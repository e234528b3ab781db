use Rattle.std.proofs.Common.{ℕ, List, drop}
use Rattle.std.specs.List.{flat_map}
use Rattle.json.specs.Token.{Token}
use Rattle.json.specs.Tree.{json_tokens}
use Rattle.lk_status.specs.declared.target.Target.{Target}
use Rattle.lk_status_command.specs.Json.{targets_json}
use Rattle.lk_status_command.proofs.Adding.{Left}
use Rattle.lk_status_command.proofs.json_object.add_targets.Given as goal

abbrev pub invariant-targets : goal.invariant-targets
invariant-targets l =
    let tokens : ℕ → List Target → List Token = λ token ts. flat_map json_tokens (targets_json l.reports token ts) in
    Left (tokens l.fn.first l.targets) (tokens l.token (drop l.target-index l.targets)) l.initial.out l.out
