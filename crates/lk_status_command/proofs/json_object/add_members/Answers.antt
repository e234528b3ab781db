use Rattle.std.proofs.Common.{List, ap, codes}
use Rattle.std.proofs.lemmas.List.{drop_all}
use Rattle.std.specs.List.{flat_map}
use Rattle.json.specs.Tree.{json_tokens}
use Rattle.lk_types.specs.declared.member.Member.{Member}
use Rattle.lk_status_command.specs.Json.{node_numbers}
use Rattle.lk_status_command.proofs.Adding.{all_added, array_added, taken}
use Rattle.lk_status_command.proofs.json_object.add_members.Goals as goal

pub returns : goal.returns
returns c =
    let ms = c.args.members.now in
    array_added _ _ _ _ _ (codes "member_nodes") (node_numbers ms)
    (taken _ _ _ _ c.in_ok-key.ensures) (taken _ _ _ _ c.in_ok-begin_array.ensures)
    (all_added c.begin_array.new.self c.members.out _ _ c.members.invariant
    (ap (λ (rest : List Member). flat_map json_tokens (node_numbers rest))
    (drop_all c.members.member-index ms c.members-test.false)))
    (taken _ _ _ _ c.in_ok-end_array.ensures)
