use Rattle.std.proofs.Common.{rules, ◌≡◌, ◌∙◌, ◌^◌, ◌<◌, sym, ap, subst, true, false, is_some, is_ok, Some, Result, Ok}
use Rattle.std.proofs.Common.{Err, MatchResult, arith}
use Rattle.std.specs.Fmt.{decimal}
use Rattle.std.specs.Result.{result_ok}
use Rattle.std.specs.Str.{IsUtf8}
use Rattle.std.proofs.lemmas.Str.{IsUtf8-from_ascii}
use Rattle.std.proofs.lemmas.Fmt.{IsAscii-decimal, parse-decimal}
use Rattle.lk_word_parsers.specs.Words.{is_plain}
use Rattle.lk_word_parsers.proofs.Numerals.{plain_is_decimal, decimal_is_plain}
use Rattle.lk_word_parsers.proofs.number.read_number.Goals as goal
use Rattle.lk_word_parsers.proofs.number.read_number.Goals.{then-number-most-via-then-number-most}
use Rattle.lk_word_parsers.proofs.number.read_number.Goals.{then-number-most-via-else-number-most+then-not-is_plain}

-- what is no text has no bytes that are text
refused : {T E : Type 0} (r : Result T E) (P : T → Type 0) (Q : E → Type 0) (N : Type 0) → is_ok r ≡ false
    → MatchResult r P (λ e. (N → ⊥) × Q e) → N → ⊥
refused (Ok t) P Q N none cases n = absurd cc
refused (Err e) P Q N none cases n = cases.0 n

was_ok : {T E : Type 0} (r : Result T E) (t : T) → Some t ≡ result_ok r → r ≡ Ok t
was_ok (Ok x) t e = cc e
was_ok (Err x) t e = cc e

pub returns-in_err-digits-clause-none : goal.returns-in_err-digits-clause-none
returns-in_err-digits-clause-none c = λ _ n most word.
    let small : n < 2 ^ 64 = omega (arith, c.ranges.most.fits, most) in
    let utf8 : IsUtf8 c.args.word.now =
    subst IsUtf8 (sym word) (IsUtf8-from_ascii (decimal n) (IsAscii-decimal n small)) in
    absurd (refused c.from_utf8.result _ _ (IsUtf8 c.args.word.now)
    (sym c.ok.ensures.variant ∙ ap is_some c.in_err-digits.was) c.from_utf8.ensures.cases utf8)

pub returns-in_err-number-clause-none : goal.returns-in_err-number-clause-none
returns-in_err-number-clause-none c = λ _ n most word.
    let small : n < 2 ^ 64 = omega (arith, c.ranges.most.fits, most) in
    let same : c.in_ok-digits.digits.now ≡ c.args.word.now = search rules in
    let digits : c.in_ok-digits.digits.now ≡ decimal n = same ∙ word in
    let parsed = parse-decimal 64 n c.in_ok-digits.digits.now c.parse.result small small digits
    c.parse.ensures.value.0 in
    let some : c.ok-2.result ≡ Some n = c.ok-2.ensures.value ∙ ap result_ok parsed in
    cc (some, c.in_err-number.was)

pub returns-then-number-most-clause-none : goal.returns-then-number-most-clause-none
returns-then-number-most-clause-none c = λ _ n most word.
    let small : n < 2 ^ 64 = omega (arith, c.ranges.most.fits, most) in
    let same : c.in_ok-digits.digits.now ≡ c.args.word.now = search rules in
    let digits : c.in_ok-digits.digits.now ≡ decimal n = same ∙ word in
    let parsed = parse-decimal 64 n c.in_ok-digits.digits.now c.parse.result small small digits
    c.parse.ensures.value.0 in
    let some : c.ok-2.result ≡ Some n = c.ok-2.ensures.value ∙ ap result_ok parsed in
    let told : c.in_ok-number.number ≡ n = cc (some, c.in_ok-number.was) in
    elim c.then-number-most.branch [
      | then-number-most-via-then-number-most w ↦ omega (arith, w.if-number-most.true, told, most)
      | then-number-most-via-else-number-most+then-not-is_plain w ↦
          let plain : is_plain c.args.word.now ≡ true = ap is_plain word ∙ decimal_is_plain n small in
          cc (plain, w.is_plain.ensures, w.if-not-is_plain.true)
    ]

pub returns-clause-some : goal.returns-clause-some
returns-clause-some c =
    let parsed : c.parse.result ≡ Ok c.in_ok-number.number =
    was_ok c.parse.result c.in_ok-number.number (sym c.in_ok-number.was ∙ c.ok-2.ensures.value) in
    let plain : is_plain c.args.word.now ≡ true = sym c.is_plain.ensures ∙ c.if-not-is_plain.false in
    let digits : c.in_ok-digits.digits.now ≡ c.args.word.now = search rules in (
      c.if-number-most.false,
      plain_is_decimal c.args.word.now c.parse.result c.in_ok-number.number
          (rw digits at c.parse.ensures.value.0) parsed plain,
    )
