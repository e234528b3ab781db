use Rattle.std.proofs.Common.{refl}
use Rattle.lk_word_parsers.specs.Words.{HasNoSpace}
use Rattle.lk_word_parsers.specs.Verbs.{word_of}
use Rattle.lk_word_parsers.specs.declared.verb.Verb.{Verb}
use Rattle.lk_word_parsers.specs.declared.verb.Verb.TheVariants.{Acquire, Release, Ask, Check, Share, Break, Join}
use Rattle.lk_word_parsers.specs.declared.verb.Verb.TheVariants.{Leave}
use Rattle.lk_word_parsers.specs.declared.verb.Verb.TheVariants.{Raise, Raw}
use Rattle.lk_word_parsers.proofs.Splits.{one_way}
use Rattle.lk_word_parsers.proofs.operation.read_operation.Goals as goal

one_verb : (v : Verb) → HasNoSpace (word_of v)
one_verb Acquire = refl
one_verb Release = refl
one_verb Ask = refl
one_verb Check = refl
one_verb Share = refl
one_verb Break = refl
one_verb Join = refl
one_verb Leave = refl
one_verb Raise = refl
one_verb Raw = refl

pub returns-in_err-verb-clause-none : goal.returns-in_err-verb-clause-none
returns-in_err-verb-clause-none c = λ none o asks.
    let first = c.in_ok-word.ensures.some in
    let parts = one_way c.args.text.now c.in_ok-word.word.now c.in_ok-word.words.now
    (word_of asks.0) asks.1 first.0 first.1 (one_verb asks.0) asks.2 in
    c.in_err-verb.ensures.none refl asks.0 parts.0
