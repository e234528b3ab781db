use Rattle.std.proofs.Common.{rules, ◌≡◌, ◌∷◌, ◌++◌, [], refl}
use Rattle.lk_word_parsers.specs.Geneses.SpellsMembers.{one}
use Rattle.lk_word_parsers.proofs.MemberWords.{one_read, no_member, no_last}
use Rattle.lk_word_parsers.proofs.member.read_members.Goals as goal

pub returns-in_default-member_of-clause-none : goal.returns-in_default-member_of-clause-none
returns-in_default-member_of-clause-none c = λ _ ms spelled few.
    let first = c.in-Some.ensures.some in
    no_member c.args.sign c.requires c.args.words.now c.words.rest.now c.in-Some.word.now c.in-Some.behind.now
    c.words.members.items first.0 first.1 (c.in_default-member_of.ensures.none refl) c.words.invariant ms spelled

pub words-preserved : goal.words-preserved
words-preserved c =
    let first = c.in-Some.ensures.some in
    let grown : c.try_push.new.self.items ≡ c.words.members.items ++ c.in-Some-member_of.member ∷ [] = search rules in
    rw grown (one_read c.args.sign c.requires c.args.words.now c.words.rest.now c.in-Some.word.now c.in-Some.behind.now
    c.words.members.items c.in-Some-member_of.member first.0 first.1 c.in-Some-member_of.ensures.some c.words.invariant)

pub returns-in_default-member_of-2-clause-none : goal.returns-in_default-member_of-2-clause-none
returns-in_default-member_of-2-clause-none c = λ _ ms spelled few.
    no_last c.args.sign c.requires c.args.words.now c.words.rest.now c.words.members.items
    (c.in_default.ensures.none refl) (c.in_default-member_of-2.ensures.none refl) c.words.invariant ms spelled

pub returns-clause-some : goal.returns-clause-some
returns-clause-some c =
    let grown : c.try_push-2.new.self.items ≡ c.words.members.items
    ++ c.in-Some-member_of-2.member ∷ [] = search rules in
    rw grown (c.words.invariant.0 (c.in-Some-member_of-2.member ∷ [])
    (one c.in-Some-member_of-2.member c.words.rest.now c.in-Some-member_of-2.ensures.some))
