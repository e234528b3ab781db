use Rattle.std.proofs.Common.{rules, ◌≡◌, ◌∙◌, ℕ, List, Some, None, refl, sym, ap, subst, arith}
use Rattle.lk_types.specs.Genesis.{wide_fault}
use Rattle.lk_types.specs.declared.member.Member.{Member}
use Rattle.lk_word_parsers.specs.Words.{HasNo}
use Rattle.lk_word_parsers.specs.Geneses.{IsAlphaWord, SpellsMembers}
use Rattle.lk_word_parsers.proofs.Splits.{has_sign}
use Rattle.lk_word_parsers.proofs.AlphaWords.{one_alpha}
use Rattle.lk_word_parsers.proofs.MemberWords.{members_once, at_most_seven}
use Rattle.lk_word_parsers.proofs.GenesisWords.{cluster_once, alpha_once}
use Rattle.lk_word_parsers.proofs.genesis.read_genesis.Goals as goal

pub returns-in_err-alpha-clause-none : goal.returns-in_err-alpha-clause-none
returns-in_err-alpha-clause-none c = λ _ cluster alpha ms spelled.
    let first = c.in_ok-cluster.ensures.some in
    let parts = cluster_once c.args.text.now c.in_ok-cluster.cluster.now c.in_ok-cluster.words.now cluster alpha ms
    spelled first.0 first.1 in
    has_sign 44 spelled.alpha_word spelled.words (subst (HasNo 44) parts.1 (c.in_err-alpha.ensures.none refl))

pub returns-in_err-cluster-2-clause-none : goal.returns-in_err-cluster-2-clause-none
returns-in_err-cluster-2-clause-none c = λ _ cluster alpha ms spelled.
    let first = c.in_ok-cluster.ensures.some in
    let parts = cluster_once c.args.text.now c.in_ok-cluster.cluster.now c.in_ok-cluster.words.now cluster alpha ms
    spelled first.0 first.1 in
    c.in_err-cluster-2.ensures.none refl cluster spelled.cluster_fits parts.0

pub returns-in_err-alpha-2-clause-none : goal.returns-in_err-alpha-2-clause-none
returns-in_err-alpha-2-clause-none c = λ _ cluster alpha ms spelled.
    let first = c.in_ok-cluster.ensures.some in
    let second = c.in_ok-alpha.ensures.some in
    let parts = alpha_once c.args.text.now c.in_ok-cluster.cluster.now c.in_ok-cluster.words.now
    c.in_ok-alpha.alpha.now c.in_ok-alpha.words.now cluster alpha ms spelled first.0 first.1 second.0 second.1 in
    c.in_err-alpha-2.ensures.none refl alpha (subst (IsAlphaWord alpha) (sym parts.0) spelled.alpha_is)

pub returns-in_err-members-clause-none : goal.returns-in_err-members-clause-none
returns-in_err-members-clause-none c = λ _ cluster alpha ms spelled.
    let first = c.in_ok-cluster.ensures.some in
    let second = c.in_ok-alpha.ensures.some in
    let parts = alpha_once c.args.text.now c.in_ok-cluster.cluster.now c.in_ok-cluster.words.now
    c.in_ok-alpha.alpha.now c.in_ok-alpha.words.now cluster alpha ms spelled first.0 first.1 second.0 second.1 in
    c.in_err-members.ensures.none refl ms
    (subst (λ (t : List ℕ). SpellsMembers 44 t ms) (sym parts.1) spelled.members_are)
    (at_most_seven 64 alpha ms spelled.has_no_fault)

pub returns-in-Err-clause-none : goal.returns-in-Err-clause-none
returns-in-Err-clause-none c = λ _ cluster alpha ms spelled.
    let first = c.in_ok-cluster.ensures.some in
    let second = c.in_ok-alpha.ensures.some in
    let parts = alpha_once c.args.text.now c.in_ok-cluster.cluster.now c.in_ok-cluster.words.now
    c.in_ok-alpha.alpha.now c.in_ok-alpha.words.now cluster alpha ms spelled first.0 first.1 second.0 second.1 in
    let alphas : c.in_ok-alpha-2.alpha ≡ alpha =
    one_alpha c.in_ok-alpha-2.alpha alpha c.in_ok-alpha.alpha.now c.in_ok-alpha-2.ensures.some
    (subst (IsAlphaWord alpha) (sym parts.0) spelled.alpha_is) in
    let members : c.in_ok-members.members.items ≡ ms =
    members_once 44 (omega arith) c.in_ok-alpha.words.now c.in_ok-members.members.items ms c.in_ok-members.ensures.some
    (subst (λ (t : List ℕ). SpellsMembers 44 t ms) (sym parts.1) spelled.members_are) in
    let fault : wide_fault c.in_ok-alpha-2.alpha c.in_ok-members.members.items
    ≡ Some c.in-Err.field-0 = search rules in
    let none : wide_fault c.in_ok-alpha-2.alpha c.in_ok-members.members.items ≡ None =
    ap (λ (k : ℕ). wide_fault k c.in_ok-members.members.items) alphas
    ∙ ap (λ (xs : List Member). wide_fault alpha xs) members ∙ spelled.has_no_fault in
    let bad : None ≡ Some c.in-Err.field-0 = sym none ∙ fault in
    absurd cc
