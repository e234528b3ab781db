-- Where none of the verbs was found, none has the word, since all of them are there.
use Rattle.std.proofs.Common.{rules, ◌≡◌, Option, Some, None, IsNone, List, [], ◌∷◌, ℕ, length, lit≤, lit<, subst}
use Rattle.std.specs.List.{AllWithin}
use Rattle.std.specs.Option.{MatchOption, option_copied}
use Rattle.std.proofs.lemmas.Iterator.{first_from_find, YieldsList-from_slice}
use denote.Bor.{Bor}
use Rattle.lk_script_lines.specs.WorldLines.{word_of}
use Rattle.lk_script_lines.specs.declared.event_verb.EventVerb.{EventVerb}
use Rattle.lk_script_lines.specs.declared.event_verb.EventVerb.TheVariants.{Start, Restart, Tick, Compact, Deliver}
use Rattle.lk_script_lines.specs.declared.event_verb.EventVerb.TheVariants.{Nudge, Group}
use Rattle.lk_script_lines.specs.declared.event_verb.EventVerb.TheVariants.{Client, Inject, Stop, Fail, Arm}
use Rattle.lk_script_lines.proofs.event_verb.EventVerb.of.Goals as goal

abbrev all : List EventVerb
all = Start ∷ Restart ∷ Tick ∷ Nudge ∷ Compact ∷ Deliver ∷ Group ∷ Client ∷ Inject ∷ Stop ∷ Fail ∷ Arm ∷ []

-- what holds at each place of the list holds of any verb
each : (P : EventVerb → Type 0) → AllWithin P all 0 (length all) → (v : EventVerb) → P v
each P h Start = h 0 Start (lit≤ tt) (lit< tt)
each P h Restart = h 1 Restart (lit≤ tt) (lit< tt)
each P h Tick = h 2 Tick (lit≤ tt) (lit< tt)
each P h Nudge = h 3 Nudge (lit≤ tt) (lit< tt)
each P h Compact = h 4 Compact (lit≤ tt) (lit< tt)
each P h Deliver = h 5 Deliver (lit≤ tt) (lit< tt)
each P h Group = h 6 Group (lit≤ tt) (lit< tt)
each P h Client = h 7 Client (lit≤ tt) (lit< tt)
each P h Inject = h 8 Inject (lit≤ tt) (lit< tt)
each P h Stop = h 9 Stop (lit≤ tt) (lit< tt)
each P h Fail = h 10 Fail (lit≤ tt) (lit< tt)
each P h Arm = h 11 Arm (lit≤ tt) (lit< tt)

-- so where none of them was found no verb has that word
none_of : (word : List ℕ) (v : EventVerb) (r : Option (Bor EventVerb)) (Hit : Bor EventVerb → Type 0)
    → MatchOption r (AllWithin (λ y. word ≡ word_of y → ⊥) all 0 (length all)) Hit
    → IsNone (option_copied r) → word ≡ word_of v → ⊥
none_of word v None Hit within none same = each (λ y. word ≡ word_of y → ⊥) within v same
none_of word v (Some x) Hit within none same = cc

pub returns-clause-none : goal.returns-clause-none
returns-clause-none c none v same =
    none_of c.args.word.now v c.find.result _
    (first_from_find {all = all} _ _ c.find.result (λ y. c.args.word.now ≡ word_of y)
    (λ y. c.args.word.now ≡ word_of y → ⊥) c.find.ensures.ran (YieldsList-from_slice _ cc)
    (λ x q k. search rules) (λ x q k. search rules))
    (subst IsNone c.copied.ensures none) same
