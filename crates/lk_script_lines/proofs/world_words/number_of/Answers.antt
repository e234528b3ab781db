use Rattle.std.proofs.Common.{◌≡◌, sym, ◌∙◌, arith}
use Rattle.std.proofs.lemmas.Fmt.{decimal_injective}
use Rattle.lk_script_lines.proofs.world_words.number_of.Goals as goal

pub returns-then-number-least-clause-none : goal.returns-then-number-least-clause-none
returns-then-number-least-clause-none c = λ _ n is.
    let told = c.in_ok-number.ensures.some in
    let same : c.in_ok-number.number ≡ n =
    decimal_injective c.in_ok-number.number n (omega (arith, told.0, c.ranges.most.fits))
    (omega (arith, is.1, c.ranges.most.fits)) (sym told.1 ∙ is.2) in
    omega (arith, same, is.0, c.if-number-least.true)
