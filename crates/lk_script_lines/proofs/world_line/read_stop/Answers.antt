use Rattle.std.proofs.Common.{ℕ, List, refl, sym, subst, arith}
use Rattle.lk_types.specs.Limits.{max_count, max_node}
use Rattle.lk_script_lines.specs.WorldLines.{IsWord, StartsWithNumber}
use Rattle.lk_script_lines.proofs.WordLaws.{leads_once}
use Rattle.lk_script_lines.proofs.world_line.read_stop.Goals as goal

pub returns-in_err-x-clause-none : goal.returns-in_err-x-clause-none
returns-in_err-x-clause-none c = λ _ o is.
    let behind = leads_once 1 max_node c.in_ok-number.number is.0 c.in_ok-number.words.now is.3 c.args.words.now
    (omega arith) c.in_ok-number.ensures.some is.5 in
    c.in_err-x.ensures.none refl is.1 is.4 (subst (λ (t : List ℕ). StartsWithNumber 0 max_count is.1 is.4 t)
    (sym behind.1) is.6)

pub returns-in_err-y-clause-none : goal.returns-in_err-y-clause-none
returns-in_err-y-clause-none c = λ _ o is.
    let behind = leads_once 1 max_node c.in_ok-number.number is.0 c.in_ok-number.words.now is.3 c.args.words.now
    (omega arith) c.in_ok-number.ensures.some is.5 in
    let further = leads_once 0 max_count c.in_ok-x.x is.1 c.in_ok-x.word.now is.4 c.in_ok-number.words.now
    (omega arith) c.in_ok-x.ensures.some
    (subst (λ (t : List ℕ). StartsWithNumber 0 max_count is.1 is.4 t) (sym behind.1) is.6) in
    c.in_err-y.ensures.none refl is.2 (subst (λ (t : List ℕ). IsWord 0 max_count is.2 t) (sym further.1) is.7)
