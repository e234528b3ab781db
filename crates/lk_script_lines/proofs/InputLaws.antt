-- Words of the inputs of a group, read in one way.
use Rattle.std.proofs.Common.{◌≡◌, ◌⊎◌, ℕ, ◌+◌, ◌%◌, ◌<◌, ◌^◌, ◌==◌, Bool, true, false, List, [], ◌∷◌, ◌++◌, codes}
use Rattle.std.proofs.Common.{refl, sym, ap, subst, ◌∙◌, inl, inr, append_assoc, append-nil, arith}
use Rattle.std.specs.Fmt.{decimal}
use Rattle.lk_types.specs.Limits.{max_count}
use Rattle.std.proofs.lemmas.Fmt.{decimal_by_steps}
use Rattle.std.proofs.lemmas.Grind.{common_steps}
use Rattle.std.proofs.lemmas.List.{append_cancel_left}
use Rattle.std.proofs.lemmas.List.Folds.{list_any-append}
use Rattle.lk_node_interface.specs.declared.nudge_reason.NudgeReason.{NudgeReason}
use Rattle.lk_node_interface.specs.declared.nudge_reason.NudgeReason.TheVariants.{Period, TicksWithheld, Fed}
use Rattle.lk_word_parsers.specs.Words.{HasNo, HasNoSpace}
use Rattle.lk_word_parsers.proofs.Splits.{one_parting, has_sign, number_has_no_space}
use Rattle.lk_sim.specs.declared.event.GroupInput.{GroupInput}
use Rattle.lk_sim.specs.declared.event.GroupInput.TheVariants as input
use Rattle.lk_script_lines.specs.WorldLines.{BeginsWithPair, FirstInput, OneInput, SpellsInput, SpellsInputs}
use Rattle.lk_script_lines.specs.WorldLines.SpellsInputs.{one, more}
use Rattle.lk_script_lines.proofs.WordLaws.{word_once}

-- ---- a number has no letter

last : (letter : ℕ) (word : List ℕ) (b : ℕ) → (b == letter) ≡ false → HasNo letter word → HasNo letter (word ++ b ∷ [])
last letter word b e h = rw (list_any-append (λ c. c == letter) word (b ∷ []), h, e) refl

number_has_no : (letter : ℕ) → 57 < letter → (n : ℕ) → n < 2 ^ 64 → HasNo letter (decimal n)
number_has_no letter high = decimal_by_steps (λ _ ds. HasNo letter ds)
    (λ n small. last letter [] (48 + n) (grind (arith, common_steps, high)) refl)
    (λ n ds large h. last letter ds (48 + n % 10) (grind (arith, common_steps, high)) h)

-- so a word with a letter is none
no_number : (letter k : ℕ) (word : List ℕ) → 57 < letter → SpellsInput (input.Deliver k) word → HasNo letter word
no_number letter k word high is =
    subst (HasNo letter) (sym is.2) (number_has_no letter high k (omega (arith, is.1)))

-- ---- words tell one input

-- `t` and the words of a nudge are no numbers
no_tick : (k : ℕ) (word : List ℕ) → word ≡ codes "t" → SpellsInput (input.Deliver k) word → ⊥
no_tick k word e is = let none = subst (HasNo 116) e (no_number 116 k word (omega arith) is) in absurd (cc none)

no_nudge : (reason : NudgeReason) (k : ℕ) (word : List ℕ) → SpellsInput (input.Nudge reason) word
    → SpellsInput (input.Deliver k) word → ⊥
no_nudge Period k word e is = let none = subst (HasNo 110) e (no_number 110 k word (omega arith) is) in absurd (cc none)
no_nudge TicksWithheld k word e is =
    let none = subst (HasNo 110) e (no_number 110 k word (omega arith) is) in absurd (cc none)
no_nudge Fed k word e is = let none = subst (HasNo 110) e (no_number 110 k word (omega arith) is) in absurd (cc none)

-- nor is one of them another
same_text : {a b : List ℕ} (word : List ℕ) → word ≡ a → word ≡ b → a ≡ b
same_text word e f = sym e ∙ f

no_tick_is_nudge : (reason : NudgeReason) (word : List ℕ) → word ≡ codes "t" → SpellsInput (input.Nudge reason) word → ⊥
no_tick_is_nudge Period word a b = absurd (cc (same_text word a b))
no_tick_is_nudge TicksWithheld word a b = absurd (cc (same_text word a b))
no_tick_is_nudge Fed word a b = absurd (cc (same_text word a b))

one_reason : (r s : NudgeReason) (word : List ℕ) → SpellsInput (input.Nudge r) word → SpellsInput (input.Nudge s) word
    → r ≡ s
one_reason Period Period word a b = refl
one_reason Period TicksWithheld word a b = absurd (cc (same_text word a b))
one_reason Period Fed word a b = absurd (cc (same_text word a b))
one_reason TicksWithheld Period word a b = absurd (cc (same_text word a b))
one_reason TicksWithheld TicksWithheld word a b = refl
one_reason TicksWithheld Fed word a b = absurd (cc (same_text word a b))
one_reason Fed Period word a b = absurd (cc (same_text word a b))
one_reason Fed TicksWithheld word a b = absurd (cc (same_text word a b))
one_reason Fed Fed word a b = refl

one_input : (t u : GroupInput) (word : List ℕ) → SpellsInput t word → SpellsInput u word → t ≡ u
one_input input.Tick input.Tick word a b = refl
one_input input.Tick (input.Nudge r) word a b = absurd (no_tick_is_nudge r word a b)
one_input input.Tick (input.Deliver k) word a b = absurd (no_tick k word a b)
one_input (input.Nudge r) input.Tick word a b = absurd (no_tick_is_nudge r word b a)
one_input (input.Nudge r) (input.Nudge s) word a b = ap input.Nudge (one_reason r s word a b)
one_input (input.Nudge r) (input.Deliver k) word a b = absurd (no_nudge r k word a b)
one_input (input.Deliver k) input.Tick word a b = absurd (no_tick k word b a)
one_input (input.Deliver k) (input.Nudge r) word a b = absurd (no_nudge r k word b a)
one_input (input.Deliver k) (input.Deliver j) word a b =
    ap input.Deliver (word_once 1 max_count k j word (omega arith) a b)

-- ---- inputs of two words

abbrev second : Bool → List ℕ
second false = codes "withheld"
second true = codes "fed"

abbrev two : Bool → List ℕ
two false = codes "nudge withheld"
two true = codes "nudge fed"

parted : (b : Bool) (rest : List ℕ) → two b ++ rest ≡ codes "nudge" ++ 32 ∷ (second b ++ rest)
parted false rest = refl
parted true rest = refl

second_free : (b : Bool) → HasNoSpace (second b)
second_free false = refl
second_free true = refl

-- texts that are the same begin with the same letter
abbrev initial : List ℕ → ℕ
initial [] = 0
initial (b ∷ word) = b

same_initial : {a b : List ℕ} (i j : ℕ) → a ≡ b → initial a ≡ i → initial b ≡ j → i ≡ j
same_initial i j e at on = sym at ∙ ap initial e ∙ on

-- neither second word begins as a nudge does
other_letter : (b c : Bool) (front rest : List ℕ) → second b ++ front ≡ two c ++ rest → ⊥
other_letter false false front rest e = omega (arith, same_initial 119 110 e refl refl)
other_letter false true front rest e = omega (arith, same_initial 119 110 e refl refl)
other_letter true false front rest e = omega (arith, same_initial 102 110 e refl refl)
other_letter true true front rest e = omega (arith, same_initial 102 110 e refl refl)

-- and they begin differently
same_pair : (b c : Bool) (x y : List ℕ) → two b ++ x ≡ two c ++ y → (b ≡ c) × (x ≡ y)
same_pair false false x y e = (refl, append_cancel_left (two false) x y e)
same_pair true true x y e = (refl, append_cancel_left (two true) x y e)
same_pair false true x y e =
    let rest = append_cancel_left (codes "nudge ") (second false ++ x) (second true ++ y) e in
    absurd (omega (arith, same_initial 119 102 rest refl refl))
same_pair true false x y e =
    let rest = append_cancel_left (codes "nudge ") (second true ++ x) (second false ++ y) e in
    absurd (omega (arith, same_initial 102 119 rest refl refl))

-- ---- where the first one ends

-- a second word alone is no input, and no input is without a space but those of two words
no_second : (b : Bool) (t : GroupInput) → SpellsInput t (second b) → ⊥
no_second false input.Tick is = absurd (cc is)
no_second false (input.Nudge Period) is = absurd (cc is)
no_second false (input.Nudge TicksWithheld) is = absurd (cc is)
no_second false (input.Nudge Fed) is = absurd (cc is)
no_second false (input.Deliver k) is = absurd (cc (no_number 119 k (codes "withheld") (omega arith) is))
no_second true input.Tick is = absurd (cc is)
no_second true (input.Nudge Period) is = absurd (cc is)
no_second true (input.Nudge TicksWithheld) is = absurd (cc is)
no_second true (input.Nudge Fed) is = absurd (cc is)
no_second true (input.Deliver k) is = absurd (cc (no_number 102 k (codes "fed") (omega arith) is))

is_plain : (t : GroupInput) (words : List ℕ) → SpellsInput t words
    → HasNoSpace words ⊎ ((b : Bool) × (words ≡ two b))
is_plain input.Tick words is = inl (subst HasNoSpace (sym is) refl)
is_plain (input.Nudge Period) words is = inl (subst HasNoSpace (sym is) refl)
is_plain (input.Nudge TicksWithheld) words is = inr (false, is)
is_plain (input.Nudge Fed) words is = inr (true, is)
is_plain (input.Deliver k) words is =
    inl (subst HasNoSpace (sym is.2) (number_has_no_space k (omega (arith, is.1))))

-- nor do inputs begin with a second word
none_second : (b : Bool) (rest : List ℕ) (inputs : List GroupInput) → SpellsInputs rest inputs
    → (rest ≡ second b) ⊎ ((behind : List ℕ) × (rest ≡ second b ++ 32 ∷ behind)) → ⊥
none_second b rest _ (one t _ is) (inl e) = no_second b t (subst (SpellsInput t) e is)
none_second b rest _ (one t _ is) (inr e) = elim (is_plain t rest is) [
  | inl free ↦ has_sign 32 (second b) e.0 (subst HasNoSpace e.1 free)
  | inr pair ↦ other_letter b pair.0 (32 ∷ e.0) [] (sym e.1 ∙ pair.1 ∙ sym (append-nil (two pair.0)))
]
none_second b _ _ (more t first rest inputs is spelled) (inl e) =
    has_sign 32 first rest (subst HasNoSpace (sym e) (second_free b))
none_second b _ _ (more t first rest inputs is spelled) (inr e) = elim (is_plain t first is) [
  | inl free ↦ no_second b t (subst (SpellsInput t)
      (one_parting 32 first (second b) rest e.0 free (second_free b) e.1).0 is)
  | inr pair ↦
      other_letter b pair.0 (32 ∷ e.0) (32 ∷ rest) (sym e.1 ∙ ap (λ (l : List ℕ). l ++ 32 ∷ rest) pair.1)
]

-- a word that does not begin an input of two words
pub first_word : (words word behind : List ℕ) → HasNoSpace word → words ≡ word ++ 32 ∷ behind
    → ((reason : NudgeReason) → SpellsInput (input.Nudge reason) words → ⊥)
    → ((first rest : List ℕ) → BeginsWithPair first rest words → ⊥) → FirstInput word behind words
first_word words word behind free e no_nudge_alone no_pair = record {
  parts = e;
  are = are words e not_two not_more;
}
  where
    not_two : (b : Bool) → words ≡ two b → ⊥
    not_two false is = no_nudge_alone TicksWithheld is
    not_two true is = no_nudge_alone Fed is

    not_more : (b : Bool) (rest : List ℕ) → words ≡ two b ++ 32 ∷ rest → ⊥
    not_more false rest is = no_pair (two false) rest (inl refl, is)
    not_more true rest is = no_pair (two true) rest (inr refl, is)

    are : (words : List ℕ) → words ≡ word ++ 32 ∷ behind → ((b : Bool) → words ≡ two b → ⊥)
        → ((b : Bool) (rest : List ℕ) → words ≡ two b ++ 32 ∷ rest → ⊥)
        → (inputs : List GroupInput) → SpellsInputs words inputs
        → (t : GroupInput) × (others : List GroupInput) × (inputs ≡ t ∷ others) × SpellsInput t word
        × SpellsInputs behind others
    are words e not_two not_more _ (one t _ is) = elim (is_plain t words is) [
      | inl plain ↦ absurd (has_sign 32 word behind (subst HasNoSpace e plain))
      | inr pair ↦ absurd (not_two pair.0 pair.1)
    ]
    are _ e not_two not_more _ (more t first rest inputs is spelled) = elim (is_plain t first is) [
      | inl plain ↦
          let parts = one_parting 32 first word rest behind plain free e in (
            t,
            inputs,
            refl,
            subst (SpellsInput t) parts.0 is,
            subst (λ (l : List ℕ). SpellsInputs l inputs) parts.1
                spelled,
          )
      | inr pair ↦ absurd (not_more pair.0 rest (ap (λ (l : List ℕ). l ++ 32 ∷ rest) pair.1))
    ]

-- an input of two words with more behind it
two_first : (b : Bool) (words behind : List ℕ) → words ≡ two b ++ 32 ∷ behind → FirstInput (two b) behind words
two_first b words behind e = record { parts = e; are = are words e }
  where
    are : (words : List ℕ) → words ≡ two b ++ 32 ∷ behind → (inputs : List GroupInput) → SpellsInputs words inputs
        → (t : GroupInput) × (others : List GroupInput) × (inputs ≡ t ∷ others) × SpellsInput t (two b)
        × SpellsInputs behind others
    are words e _ (one t _ is) = elim (is_plain t words is) [
      | inl plain ↦ absurd (has_sign 32 (two b) behind (subst HasNoSpace e plain))
      | inr pair ↦
          let same = same_pair pair.0 b [] (32 ∷ behind) (append-nil (two pair.0) ∙ sym pair.1 ∙ e) in
          absurd (cc same.1)
    ]
    are _ e _ (more t first rest inputs is spelled) = elim (is_plain t first is) [
      | inl plain ↦
          let parts = one_parting 32 first (codes "nudge") rest (second b ++ 32 ∷ behind) plain refl
          (e ∙ parted b (32 ∷ behind)) in
          absurd (none_second b rest inputs spelled (inr (behind, parts.1)))
      | inr pair ↦
          let same = same_pair pair.0 b (32 ∷ rest) (32 ∷ behind)
          (sym (ap (λ (l : List ℕ). l ++ 32 ∷ rest) pair.1) ∙ e) in (
            t,
            inputs,
            refl,
            subst (SpellsInput t) (pair.1 ∙ ap (λ (c : Bool). two c) same.0) is,
            subst (λ (l : List ℕ). SpellsInputs l inputs) (append_cancel_left (32 ∷ []) rest behind same.1) spelled,
          )
    ]

pub first_pair : (first behind words : List ℕ) → BeginsWithPair first behind words → FirstInput first behind words
first_pair first behind words k = elim k.0 [ inl is ↦ as_two false is | inr is ↦ as_two true is ]
  where
    as_two : (b : Bool) → first ≡ two b → FirstInput first behind words
    as_two b is = subst (λ (l : List ℕ). FirstInput l behind words) (sym is)
        (two_first b words behind (k.1 ∙ ap (λ (l : List ℕ). l ++ 32 ∷ behind) is))

-- a word alone
pub one_word : (words : List ℕ) → HasNoSpace words → OneInput words
one_word words free _ (one t _ is) = (t, refl, is)
one_word _ free _ (more t first rest inputs is spelled) = absurd (has_sign 32 first rest free)

-- two words alone
one_pair : (b : Bool) (words : List ℕ) → words ≡ two b → OneInput words
one_pair b words e _ (one t _ is) = (t, refl, is)
one_pair b _ e _ (more t first rest inputs is spelled) =
    let nothing_more : first ++ 32 ∷ rest ≡ two b ++ [] = e ∙ sym (append-nil (two b)) in
    elim (is_plain t first is) [
      | inl plain ↦
          let parts = one_parting 32 first (codes "nudge") rest (second b ++ []) plain refl
          (nothing_more ∙ parted b []) in
          absurd (none_second b rest inputs spelled (inl (parts.1 ∙ append-nil (second b))))
      | inr pair ↦
          let same = same_pair pair.0 b (32 ∷ rest) []
          (sym (ap (λ (l : List ℕ). l ++ 32 ∷ rest) pair.1) ∙ nothing_more) in
          absurd (cc same.1)
    ]

-- the words of a nudge alone
pub one_nudge : (reason : NudgeReason) (words : List ℕ) → SpellsInput (input.Nudge reason) words → OneInput words
one_nudge Period words e = one_word words (subst HasNoSpace (sym e) refl)
one_nudge TicksWithheld words e = one_pair false words e
one_nudge Fed words e = one_pair true words e

-- ---- reading them one by one

-- the inputs read so far, and the words left
abbrev pub ReadSoFar : List ℕ → List GroupInput → List ℕ → Type 0
ReadSoFar words inputs rest = ((others : List GroupInput) → SpellsInputs rest others
    → SpellsInputs words (inputs ++ others))
    × ((all : List GroupInput) → SpellsInputs words all
    → (others : List GroupInput) × (all ≡ inputs ++ others) × SpellsInputs rest others)

pub nothing_read : (words : List ℕ) → ReadSoFar words [] words
nothing_read words = (λ others is. is, λ all is. (all, refl, is))

pub one_read : (words rest first behind : List ℕ) (inputs : List GroupInput) (t : GroupInput)
    → FirstInput first behind rest → SpellsInput t first → ReadSoFar words inputs rest
    → ReadSoFar words (inputs ++ t ∷ []) behind
one_read words rest first behind inputs t leads is so_far = (
  λ others spelled. subst (SpellsInputs words) (sym (append_assoc inputs (t ∷ []) others))
      (so_far.0 (t ∷ others) (subst (λ (l : List ℕ). SpellsInputs l (t ∷ others)) (sym leads.parts)
      (more t first behind others is spelled))),
  λ all spelled.
      let left = so_far.1 all spelled in
      let found = leads.are left.0 left.2 in
      let same : found.0 ≡ t = one_input found.0 t first found.3 is in
      let others : left.0 ≡ t ∷ found.1 = found.2 ∙ ap (λ (x : GroupInput). x ∷ found.1) same in (
        found.1,
        left.1 ∙ ap (λ (xs : List GroupInput). inputs ++ xs) others ∙ sym (append_assoc inputs (t ∷ []) found.1),
        found.4,
      ),
)

-- words that tell no input
pub no_input : (words rest first behind : List ℕ) (inputs : List GroupInput) → FirstInput first behind rest
    → ((t : GroupInput) → SpellsInput t first → ⊥)
    → ReadSoFar words inputs rest → (all : List GroupInput) → SpellsInputs words all → ⊥
no_input words rest first behind inputs leads none so_far all spelled =
    let left = so_far.1 all spelled in
    let found = leads.are left.0 left.2 in
    none found.0 found.3

pub no_last : (words rest : List ℕ) (inputs : List GroupInput) → OneInput rest
    → ((t : GroupInput) → SpellsInput t rest → ⊥)
    → ReadSoFar words inputs rest → (all : List GroupInput) → SpellsInputs words all → ⊥
no_last words rest inputs alone none so_far all spelled =
    let left = so_far.1 all spelled in
    let found = alone left.0 left.2 in
    none found.0 found.2
