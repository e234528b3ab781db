use Rattle.std.proofs.Common.{List, rules, sym, subst, arith}
use Rattle.lk_types.specs.Limits.{max_node}
use Rattle.lk_script_lines.specs.WorldLines.{SpellsInputs}
use Rattle.lk_script_lines.proofs.WordLaws.{leads_once}
use Rattle.lk_script_lines.proofs.world_line.read_group.Goals as goal

pub returns-in_err-inputs-clause-not_understood : goal.returns-in_err-inputs-clause-not_understood
returns-in_err-inputs-clause-not_understood c = λ bad o is.
    let behind = leads_once 1 max_node c.in-Some.number is.0 c.in-Some.words.now is.1 c.args.words.now
    (omega arith) c.in-Some.ensures.some is.4 in
    c.in_err-inputs.ensures.not_understood (search rules) is.2
    (subst (λ (t : List _). SpellsInputs t is.2) (sym behind.1) is.5)
