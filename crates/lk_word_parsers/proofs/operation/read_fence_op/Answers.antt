use Rattle.std.proofs.Common.{refl, subst, sym}
use Rattle.std.specs.Fmt.{decimal}
use Rattle.lk_word_parsers.specs.Operations.{IsNameWord}
use Rattle.lk_word_parsers.proofs.Splits.{one_way}
use Rattle.lk_word_parsers.proofs.operation.read_fence_op.Goals as goal

pub returns-in_err-fence-clause-none : goal.returns-in_err-fence-clause-none
returns-in_err-fence-clause-none c = λ none o asks.
    let first = c.in_ok-name.ensures.some in
    let parts = one_way c.args.words.now c.in_ok-name.name.now c.in_ok-name.word.now asks.0
    (decimal asks.1) first.0 first.1 asks.3.2 asks.2 in
    c.in_err-fence.ensures.none refl asks.1 asks.4 parts.1

pub returns-in-None-clause-none : goal.returns-in-None-clause-none
returns-in-None-clause-none c = λ none o asks.
    let first = c.in_ok-name.ensures.some in
    let parts = one_way c.args.words.now c.in_ok-name.name.now c.in_ok-name.word.now asks.0
    (decimal asks.1) first.0 first.1 asks.3.2 asks.2 in
    c.in-None.ensures.none refl (subst IsNameWord (sym parts.0) asks.3)
