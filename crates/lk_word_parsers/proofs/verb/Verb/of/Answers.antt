-- Where none of the verbs was found, none has the word, since all of them are there.
use Rattle.std.proofs.Common.{rules, ◌≡◌, Option, Some, None, IsNone, List, [], ◌∷◌, ℕ, length, lit≤, lit<, subst}
use Rattle.std.specs.List.{AllWithin}
use Rattle.std.specs.Option.{MatchOption, option_copied}
use Rattle.std.proofs.lemmas.Iterator.{first_from_find, YieldsList-from_slice}
use denote.Bor.{Bor}
use Rattle.lk_word_parsers.specs.Verbs.{word_of}
use Rattle.lk_word_parsers.specs.declared.verb.Verb.{Verb}
use Rattle.lk_word_parsers.specs.declared.verb.Verb.TheVariants.{Acquire, Release, Ask, Check, Share, Break, Join}
use Rattle.lk_word_parsers.specs.declared.verb.Verb.TheVariants.{Leave}
use Rattle.lk_word_parsers.specs.declared.verb.Verb.TheVariants.{Raise, Raw}
use Rattle.lk_word_parsers.proofs.verb.Verb.of.Goals as goal

abbrev all : List Verb
all = Acquire ∷ Release ∷ Ask ∷ Check ∷ Share ∷ Break ∷ Join ∷ Leave ∷ Raise ∷ Raw ∷ []

-- what holds at each place of the list holds of any verb
each : (P : Verb → Type 0) → AllWithin P all 0 (length all) → (v : Verb) → P v
each P h Acquire = h 0 Acquire (lit≤ tt) (lit< tt)
each P h Release = h 1 Release (lit≤ tt) (lit< tt)
each P h Ask = h 2 Ask (lit≤ tt) (lit< tt)
each P h Check = h 3 Check (lit≤ tt) (lit< tt)
each P h Share = h 4 Share (lit≤ tt) (lit< tt)
each P h Break = h 5 Break (lit≤ tt) (lit< tt)
each P h Join = h 6 Join (lit≤ tt) (lit< tt)
each P h Leave = h 7 Leave (lit≤ tt) (lit< tt)
each P h Raise = h 8 Raise (lit≤ tt) (lit< tt)
each P h Raw = h 9 Raw (lit≤ tt) (lit< tt)

-- so where none of them was found no verb has that word
none_of : (word : List ℕ) (v : Verb) (r : Option (Bor Verb)) (Hit : Bor Verb → Type 0)
    → MatchOption r (AllWithin (λ y. word ≡ word_of y → ⊥) all 0 (length all)) Hit
    → IsNone (option_copied r) → word ≡ word_of v → ⊥
none_of word v None Hit within none same = each (λ y. word ≡ word_of y → ⊥) within v same
none_of word v (Some x) Hit within none same = cc

pub returns-clause-none : goal.returns-clause-none
returns-clause-none c none v same =
    none_of c.args.word.now v c.find.result _
    (first_from_find {all = all} _ _ c.find.result (λ y. c.args.word.now ≡ word_of y)
    (λ y. c.args.word.now ≡ word_of y → ⊥) c.find.ensures.ran (YieldsList-from_slice _ cc)
    (λ x q k. search rules) (λ x q k. search rules))
    (subst IsNone c.copied.ensures none) same
