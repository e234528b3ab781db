use Rattle.std.proofs.Common.{rules, ◌≡◌, ◌∙◌, sym, ap, subst, List, ℕ, drop, length, Result, Ok, Err, MatchResult}
use Rattle.std.proofs.Common.{false, is_some, is_ok}
use Rattle.std.specs.Result.{result_ok}
use Rattle.std.specs.Fmt.{decimal}
use Rattle.std.specs.Str.{IsUtf8}
use Rattle.std.proofs.lemmas.Str.{IsUtf8-from_ascii}
use Rattle.std.proofs.lemmas.Fmt.{IsAscii-decimal, parse-decimal}
use Rattle.lk_script.proofs.script.cluster_named.Goals as goal

-- what is no text has no bytes that are text
refused : {T E : Type 0} (r : Result T E) (P : T → Type 0) (Q : E → Type 0) (N : Type 0) → is_ok r ≡ false
    → MatchResult r P (λ e. (N → ⊥) × Q e) → N → ⊥
refused (Ok t) P Q N none cases n = absurd cc
refused (Err e) P Q N none cases n = cases.0 n

pub returns-in_err-digits-2 : goal.returns-in_err-digits-2
returns-in_err-digits-2 c = λ cluster line.
    let is : c.in_ok-digits.digits.now ≡ decimal cluster = c.in_ok-digits.ensures.cases.1
    ∙ ap (λ (t : List ℕ). drop (length t) c.args.line.now) c.as_slice.ensures ∙ ap (λ (t : List ℕ). drop 6 t) line.1 in
    let utf8 : IsUtf8 c.in_ok-digits.digits.now =
    subst IsUtf8 (sym is) (IsUtf8-from_ascii (decimal cluster) (IsAscii-decimal cluster line.0)) in
    absurd (refused c.from_utf8.result _ _ (IsUtf8 c.in_ok-digits.digits.now)
    (sym c.ok.ensures.variant ∙ ap is_some c.in_err-digits-2.was) c.from_utf8.ensures.cases utf8)

pub returns : goal.returns
returns c = λ cluster line.
    let is : c.in_ok-digits.digits.now ≡ decimal cluster = c.in_ok-digits.ensures.cases.1
    ∙ ap (λ (t : List ℕ). drop (length t) c.args.line.now) c.as_slice.ensures ∙ ap (λ (t : List ℕ). drop 6 t) line.1 in
    let parsed = parse-decimal 64 cluster c.in_ok-digits-2.digits.now c.parse.result line.0 line.0
    (search rules) c.parse.ensures.value.0 in
    c.ok-2.ensures.value ∙ ap result_ok parsed
