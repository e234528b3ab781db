use Rattle.std.proofs.Common.{◌≡◌, ◌<◌, ◌^◌, arith}
use Rattle.lk_command_line.proofs.Numerals.{one_number}
use Rattle.lk_command_line.proofs.status_plan.time_of.Goals as goal

pub returns-then-seconds-eq0-clause-none : goal.returns-then-seconds-eq0-clause-none
returns-then-seconds-eq0-clause-none c = λ _ n is word.
    let told = c.in_ok-seconds.ensures.some in
    let small : c.in_ok-seconds.seconds < 2 ^ 64 = omega (arith, told.0) in
    let same : c.in_ok-seconds.seconds ≡ n =
    one_number c.in_ok-seconds.seconds n c.args.word.now small (omega (arith, is.1)) told.1 word in
    absurd (omega (arith, same, is.0, c.if-seconds-eq0.true))
