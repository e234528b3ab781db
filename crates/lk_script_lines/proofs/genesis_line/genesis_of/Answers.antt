use Rattle.std.proofs.Common.{rules, ◌≡◌, ◌∙◌, ℕ, List, Some, None, refl, sym, ap, subst, arith}
use Rattle.lk_types.specs.Genesis.{wide_fault}
use Rattle.lk_types.specs.declared.member.Member.{Member}
use Rattle.lk_word_parsers.specs.Geneses.{SpellsMembers}
use Rattle.lk_word_parsers.proofs.MemberWords.{members_once, at_most_seven}
use Rattle.lk_script_lines.proofs.GenesisLaws.{numbers_once}
use Rattle.lk_script_lines.proofs.genesis_line.genesis_of.Goals as goal

pub returns-in_err-cluster-clause-none : goal.returns-in_err-cluster-clause-none
returns-in_err-cluster-clause-none c =
    λ _ cluster alpha ms spelled fine. c.in_err-cluster.ensures.none refl cluster alpha ms spelled

pub returns-in_err-members-clause-none : goal.returns-in_err-members-clause-none
returns-in_err-members-clause-none c = λ _ cluster alpha ms spelled fine.
    let same = numbers_once c.args.words.now c.in_ok-cluster.cluster c.in_ok-cluster.alpha c.in_ok-cluster.words.now
    c.in_ok-cluster.ensures.some cluster alpha ms spelled in
    c.in_err-members.ensures.none refl ms
    (subst (λ (t : List ℕ). SpellsMembers 32 t ms) (sym same.1) spelled.members_are) (at_most_seven 64 alpha ms fine)

pub returns-in-Err-clause-none : goal.returns-in-Err-clause-none
returns-in-Err-clause-none c = λ _ cluster alpha ms spelled fine.
    let same = numbers_once c.args.words.now c.in_ok-cluster.cluster c.in_ok-cluster.alpha c.in_ok-cluster.words.now
    c.in_ok-cluster.ensures.some cluster alpha ms spelled in
    let members : c.in_ok-members.members.items ≡ ms =
    members_once 32 (omega arith) c.in_ok-cluster.words.now c.in_ok-members.members.items ms
    c.in_ok-members.ensures.some (subst (λ (t : List ℕ). SpellsMembers 32 t ms) (sym same.1) spelled.members_are) in
    let fault : wide_fault c.in_ok-cluster.alpha c.in_ok-members.members.items
    ≡ Some c.in-Err.field-0 = search rules in
    let none : wide_fault c.in_ok-cluster.alpha c.in_ok-members.members.items ≡ None =
    ap (λ (k : ℕ). wide_fault k c.in_ok-members.members.items) same.0
    ∙ ap (λ (xs : List Member). wide_fault alpha xs) members ∙ fine in
    let bad : None ≡ Some c.in-Err.field-0 = sym none ∙ fault in
    absurd cc
