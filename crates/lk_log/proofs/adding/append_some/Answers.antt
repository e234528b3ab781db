use Rattle.std.proofs.Common.{arith}
use Rattle.std.proofs.lemmas.Bool.Decides.{nat_tests}
use Rattle.lk_log.proofs.Metering.{none_made, one_comes, no_call_for, one_call_for}
use Rattle.lk_log.proofs.adding.append_some.Goals as goal

pub returns-then-is_empty-clause-metered : goal.returns-then-is_empty-clause-metered
returns-then-is_empty-clause-metered g c metered =
    none_made _ _ (no_call_for c.args.bytes.now (grind (arith, nat_tests)))

pub returns-clause-metered : goal.returns-clause-metered
returns-clause-metered g c metered =
    one_comes _ _ _ _ (one_call_for c.args.bytes.now (λ none. grind (arith, nat_tests)))
    (c.append.ensures.metered metered)
