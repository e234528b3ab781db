use Rattle.std.proofs.Common.{◌≡◌, arith}
use Rattle.std.specs.Prelude.{IsSome}
use Rattle.lk_word_parsers.proofs.Numerals.{one_number}
use Rattle.lk_word_parsers.proofs.operation.port_of.Goals as goal

pub returns-clause-none : goal.returns-clause-none
returns-clause-none c = λ none n is word.
    let told = c.in_ok-number.ensures.some in
    let same : c.in_ok-number.number ≡ n =
    one_number c.in_ok-number.number n c.args.word.now (omega (arith, told.0))
    (omega (arith, is.0, is.1)) told.1 word in
    let some : IsSome c.of.result = c.of.ensures.some.1 (rw same is) in
    cc (none, some)
