use Rattle.std.proofs.Common.{drop}
use Rattle.std.specs.List.{flat_map}
use Rattle.json.specs.Tree.{json_tokens}
use Rattle.lk_status_command.specs.Json.{node_numbers}
use Rattle.lk_status_command.proofs.Adding.{Left}
use Rattle.lk_status_command.proofs.json_object.add_members.Given as goal

abbrev pub invariant-members : goal.invariant-members
invariant-members l =
    Left (flat_map json_tokens (node_numbers l.members))
    (flat_map json_tokens (node_numbers (drop l.member-index l.members))) l.initial.out l.out
