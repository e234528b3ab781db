use Rattle.std.proofs.Common.{refl, arith}
use Rattle.std.specs.Fmt.{decimal}
use Rattle.lk_word_parsers.proofs.Splits.{one_way, number_has_no_space}
use Rattle.lk_script_lines.proofs.world_words.first_number.Goals as goal

pub returns-in_err-number-clause-none : goal.returns-in_err-number-clause-none
returns-in_err-number-clause-none c = λ _ n rest is.
    let first = c.in_ok-word.ensures.some in
    let parts = one_way c.args.words.now c.in_ok-word.word.now c.in_ok-word.rest.now (decimal n) rest first.0 first.1
    (number_has_no_space n (omega (arith, is.1, c.ranges.most.fits))) is.2 in
    c.in_err-number.ensures.none refl n (is.0, is.1, parts.0)
