use Rattle.std.proofs.Common.{◌^◌, ◌<◌, refl, arith}
use Rattle.std.specs.Fmt.{decimal}
use Rattle.lk_word_parsers.proofs.Splits.{one_way, number_has_no_space}
use Rattle.lk_word_parsers.proofs.operation.read_join.Goals as goal

pub returns-in_default-clause-none : goal.returns-in_default-clause-none
returns-in_default-clause-none c = λ none o asks.
    let first = c.in_ok-node.ensures.some in
    let small : asks.0 < 2 ^ 64 = omega (arith, asks.3.1) in
    let parts = one_way c.args.words.now c.in_ok-node.node.now c.in_ok-node.port.now (decimal asks.0)
    (decimal asks.1) first.0 first.1 (number_has_no_space asks.0 small) asks.2 in
    c.in_default.ensures.none refl asks.0 asks.3 parts.0

pub returns-in-None-clause-none : goal.returns-in-None-clause-none
returns-in-None-clause-none c = λ none o asks.
    let first = c.in_ok-node.ensures.some in
    let small : asks.0 < 2 ^ 64 = omega (arith, asks.3.1) in
    let parts = one_way c.args.words.now c.in_ok-node.node.now c.in_ok-node.port.now (decimal asks.0)
    (decimal asks.1) first.0 first.1 (number_has_no_space asks.0 small) asks.2 in
    c.in-None.ensures.none refl asks.1 asks.4 parts.1
