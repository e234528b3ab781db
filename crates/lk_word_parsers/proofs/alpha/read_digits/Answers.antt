use Rattle.std.proofs.Common.{rules, ◌≡◌, arith}
use Rattle.lk_word_parsers.proofs.Numerals.{one_number}
use Rattle.lk_word_parsers.proofs.alpha.read_digits.Goals as goal

pub returns-then-alpha-lt1-clause-none : goal.returns-then-alpha-lt1-clause-none
returns-then-alpha-lt1-clause-none c = λ _ n least most word.
    let told = c.in_ok-alpha.ensures.some in
    let limit : c.from.result ≡ c.args.most = search rules in
    let same : c.in_ok-alpha.alpha ≡ n =
    one_number c.in_ok-alpha.alpha n c.args.word.now (omega (arith, told.0, limit, c.ranges.most.fits))
    (omega (arith, most, c.ranges.most.fits)) told.1 word in
    omega (arith, same, least, c.if-alpha-lt1.true)
