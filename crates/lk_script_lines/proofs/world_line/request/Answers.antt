use Rattle.std.proofs.Common.{ℕ, List, refl, sym, subst, arith}
use Rattle.lk_types.specs.Limits.{max_count, max_client}
use Rattle.lk_word_parsers.specs.Operations.{SpellsOp}
use Rattle.lk_script_lines.specs.WorldLines.{StartsWithNumber}
use Rattle.lk_script_lines.proofs.WordLaws.{leads_once}
use Rattle.lk_script_lines.proofs.world_line.request.Goals as goal

pub returns-in_err-number-clause-none : goal.returns-in_err-number-clause-none
returns-in_err-number-clause-none c = λ _ r is.
    let behind = leads_once 1 max_client c.in_ok-client.client r.client c.in_ok-client.words.now is.0 c.args.words.now
    (omega arith) c.in_ok-client.ensures.some is.2 in
    c.in_err-number.ensures.none refl r.number is.1
    (subst (λ (t : List ℕ). StartsWithNumber 1 max_count r.number is.1 t) (sym behind.1) is.3)

pub returns-in_default-clause-none : goal.returns-in_default-clause-none
returns-in_default-clause-none c = λ _ r is.
    let behind = leads_once 1 max_client c.in_ok-client.client r.client c.in_ok-client.words.now is.0 c.args.words.now
    (omega arith) c.in_ok-client.ensures.some is.2 in
    let further = leads_once 1 max_count c.in_ok-number.number r.number c.in_ok-number.words.now is.1
    c.in_ok-client.words.now (omega arith) c.in_ok-number.ensures.some
    (subst (λ (t : List ℕ). StartsWithNumber 1 max_count r.number is.1 t) (sym behind.1) is.3) in
    c.in_default.ensures.none refl r.op (subst (λ (t : List ℕ). SpellsOp t r.op) (sym further.1) is.4)
