use Rattle.std.proofs.Common.{◌≡◌, ◌<◌, ◌^◌, arith}
use Rattle.std.specs.Prelude.{IsSome}
use Rattle.lk_command_line.proofs.Numerals.{one_number}
use Rattle.lk_command_line.proofs.values.client_of.Goals as goal

pub returns-clause-none : goal.returns-clause-none
returns-clause-none c = λ none n is word.
    let told = c.in_ok-number.ensures.some in
    let small : c.in_ok-number.number < 2 ^ 64 = omega (arith, told.0) in
    let same : c.in_ok-number.number ≡ n =
    one_number c.in_ok-number.number n c.args.word.now small (omega (arith, is.0, is.1)) told.1 word in
    let some : IsSome c.of.result = c.of.ensures.some.1 (rw same is) in
    cc (none, some)
