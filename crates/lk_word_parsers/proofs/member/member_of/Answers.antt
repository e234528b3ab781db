use Rattle.std.proofs.Common.{◌<◌, ◌^◌, refl, sym, ◌∙◌, arith}
use Rattle.std.specs.Fmt.{decimal}
use Rattle.lk_word_parsers.proofs.Splits.{one_parting, number_has_no_colon}
use Rattle.lk_word_parsers.proofs.member.member_of.Goals as goal

pub returns-in_default-clause-none : goal.returns-in_default-clause-none
returns-in_default-clause-none c = λ _ m is.
    let first = c.in_ok-node.ensures.some in
    let small : m.node < 2 ^ 64 = omega (arith, is.0.1) in
    let parts = one_parting 58 c.in_ok-node.node.now (decimal m.node) c.in_ok-node.port.now (decimal m.port) first.0
    (number_has_no_colon m.node small) (sym first.1 ∙ is.2) in
    c.in_default.ensures.none refl m.node is.0 parts.0

pub returns-in-None-clause-none : goal.returns-in-None-clause-none
returns-in-None-clause-none c = λ _ m is.
    let first = c.in_ok-node.ensures.some in
    let small : m.node < 2 ^ 64 = omega (arith, is.0.1) in
    let parts = one_parting 58 c.in_ok-node.node.now (decimal m.node) c.in_ok-node.port.now (decimal m.port) first.0
    (number_has_no_colon m.node small) (sym first.1 ∙ is.2) in
    c.in-None.ensures.none refl m.port is.1 parts.1
