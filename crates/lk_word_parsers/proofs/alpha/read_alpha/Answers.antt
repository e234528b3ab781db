use Rattle.std.proofs.Common.{ap, length, arith}
use Rattle.lk_word_parsers.proofs.AlphaWords.{is_wide}
use Rattle.lk_word_parsers.proofs.alpha.read_alpha.Goals as goal

pub returns-in-Some-default-empty-clause-none : goal.returns-in-Some-default-empty-clause-none
returns-in-Some-default-empty-clause-none c = λ none n is.
    let arm = c.in-Some-default-empty in
    let first = arm.ensures.some in
    let parts = is_wide n c.args.word.now arm.digits.now arm.field-0-1.now first.0 first.1 is in
    c.read_digits-in-Some-default-empty.ensures.none none n parts.0 parts.1 parts.2

pub returns-in-Some-clause-none : goal.returns-in-Some-clause-none
returns-in-Some-clause-none c = λ _ n is.
    let first = c.in-Some.ensures.some in
    let pair = c.in-Some.field-0 in
    let parts = is_wide n c.args.word.now pair.0.now pair.1.now first.0 first.1 is in
    omega (arith, ap length parts.3, c.in-Some.len_at_least)
