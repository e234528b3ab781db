use Rattle.std.proofs.Common.{ℕ, List, refl, sym, subst, arith}
use Rattle.lk_types.specs.Limits.{max_node}
use Rattle.lk_script_lines.specs.WorldLines.{SpellsRequest}
use Rattle.lk_script_lines.proofs.WordLaws.{leads_once}
use Rattle.lk_script_lines.proofs.world_line.read_ask.Goals as goal

pub returns-in_default-clause-none : goal.returns-in_default-clause-none
returns-in_default-clause-none c = λ _ o is.
    let behind = leads_once 1 max_node c.in_ok-number.number is.0 c.in_ok-number.words.now is.2 c.args.words.now
    (omega arith) c.in_ok-number.ensures.some is.3 in
    c.in_default.ensures.none refl is.1 (subst (λ (t : List ℕ). SpellsRequest t is.1) (sym behind.1) is.4)
