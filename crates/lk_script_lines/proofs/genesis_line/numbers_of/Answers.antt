use Rattle.std.proofs.Common.{ℕ, List, refl, sym, subst, arith}
use Rattle.lk_word_parsers.specs.Geneses.{IsAlphaWord}
use Rattle.lk_word_parsers.specs.Words.{HasNoSpace}
use Rattle.lk_word_parsers.proofs.Splits.{one_way, has_space}
use Rattle.lk_word_parsers.proofs.AlphaWords.{alpha_has_no}
use Rattle.lk_script_lines.specs.GenesisLines.{StartsWithAlpha}
use Rattle.lk_script_lines.proofs.WordLaws.{leads_once}
use Rattle.lk_script_lines.proofs.genesis_line.numbers_of.Goals as goal

pub returns-in_err-word-clause-none : goal.returns-in_err-word-clause-none
returns-in_err-word-clause-none c = λ _ cluster alpha ms is.
    let behind = leads_once 0 18446744073709551615 c.in_ok-cluster.cluster cluster c.in_ok-cluster.words.now is.more
    c.args.words.now (omega arith) c.in_ok-cluster.ensures.some is.cluster_leads in
    let leads = subst (λ (t : List ℕ). StartsWithAlpha alpha is.rest t) (sym behind.1) is.alpha_leads in
    has_space leads.0 is.rest (subst HasNoSpace leads.2 (c.in_err-word.ensures.none refl))

pub returns-in_err-alpha-clause-none : goal.returns-in_err-alpha-clause-none
returns-in_err-alpha-clause-none c = λ _ cluster alpha ms is.
    let behind = leads_once 0 18446744073709551615 c.in_ok-cluster.cluster cluster c.in_ok-cluster.words.now is.more
    c.args.words.now (omega arith) c.in_ok-cluster.ensures.some is.cluster_leads in
    let leads = subst (λ (t : List ℕ). StartsWithAlpha alpha is.rest t) (sym behind.1) is.alpha_leads in
    let second = c.in_ok-word.ensures.some in
    let parts = one_way c.in_ok-cluster.words.now c.in_ok-word.word.now c.in_ok-word.words.now leads.0 is.rest
    second.0 second.1 (alpha_has_no 32 (omega arith) alpha leads.0 leads.1) leads.2 in
    c.in_err-alpha.ensures.none refl alpha (subst (IsAlphaWord alpha) (sym parts.0) leads.1)
