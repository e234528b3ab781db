-- Words of members, read in one way.
use Rattle.std.proofs.Common.{◌≡◌, ℕ, ◌+◌, ◌<◌, ◌≤◌, ◌==◌, false, None, List, [], ◌∷◌, ◌++◌, length, refl, sym, ap}
use Rattle.std.proofs.Common.{subst, ◌∙◌, append_assoc, arith}
use Rattle.std.specs.Fmt.{decimal}
use Rattle.std.specs.List.{list_any}
use Rattle.std.proofs.lemmas.Fmt.{decimal_injective}
use Rattle.std.proofs.lemmas.List.{length-append}
use Rattle.std.proofs.lemmas.List.Folds.{list_any-append}
use Rattle.std.proofs.lemmas.Grind.{common_steps}
use Rattle.lk_types.specs.Genesis.{fault_up_to}
use Rattle.lk_types.specs.declared.member.Member.{Member}
use Rattle.lk_word_parsers.specs.Words.{HasNo}
use Rattle.lk_word_parsers.specs.Geneses.{IsMemberWord, SpellsMembers}
use Rattle.lk_word_parsers.specs.Geneses.SpellsMembers.{one, more}
use Rattle.lk_word_parsers.proofs.Splits.{one_parting, has_sign, number_has_no, number_has_no_colon}

-- a genesis that is not refused has at most seven members
pub at_most_seven : (most alpha : ℕ) (ms : List Member) → fault_up_to most alpha ms ≡ None → length ms ≤ 7
at_most_seven most alpha ms fine = grind (arith, common_steps, fine)

abbrev member : ℕ → ℕ → Member
member node port = record { node = node; port = port }

-- a word tells one member
pub member_once : (m n : Member) (word : List ℕ) → IsMemberWord m word → IsMemberWord n word → m ≡ n
member_once m n word a b =
    let parts = one_parting 58 (decimal m.node) (decimal n.node) (decimal m.port) (decimal n.port)
    (number_has_no_colon m.node (omega (arith, a.0.1)))
    (number_has_no_colon n.node (omega (arith, b.0.1))) (sym a.2 ∙ b.2) in
    let nodes : m.node ≡ n.node =
    decimal_injective m.node n.node (omega (arith, a.0.1)) (omega (arith, b.0.1)) parts.0 in
    let ports : m.port ≡ n.port =
    decimal_injective m.port n.port (omega (arith, a.1.1)) (omega (arith, b.1.1)) parts.1 in
    ap (λ (x : ℕ). member x m.port) nodes ∙ ap (member n.node) ports

-- the members read so far, and the words left
abbrev pub ReadSoFar : ℕ → List ℕ → List Member → List ℕ → Type 0
ReadSoFar sign words members rest =
    ((others : List Member) → SpellsMembers sign rest others → SpellsMembers sign words (members ++ others))
    × ((all : List Member) → SpellsMembers sign words all
    → (others : List Member) × (all ≡ members ++ others) × SpellsMembers sign rest others)

pub nothing_read : (sign : ℕ) (words : List ℕ) → ReadSoFar sign words [] words
nothing_read sign words = (λ others is. is, λ all is. (all, refl, is))

module _ (sign : ℕ) (low : sign < 48) where
  -- a member's word has no sign below the digits
  pub member_has_no : (m : Member) (word : List ℕ) → IsMemberWord m word → HasNo sign word
  member_has_no m word is =
      let node : list_any (λ b. b == sign) (decimal m.node) ≡ false =
      number_has_no sign low m.node (omega (arith, is.0.1)) in
      let port : list_any (λ b. b == sign) (decimal m.port) ≡ false =
      number_has_no sign low m.port (omega (arith, is.1.1)) in
      let colon : (58 == sign) ≡ false = grind (arith, common_steps, low) in
      rw (is.2, list_any-append (λ b. b == sign) (decimal m.node) (58 ∷ decimal m.port), node, colon, port) refl

  -- the first of several
  pub first_member : (words word behind : List ℕ) (ms : List Member) → HasNo sign word → words ≡ word ++ sign ∷ behind
      → SpellsMembers sign words ms
      → (m : Member) × (others : List Member) × (ms ≡ m ∷ others) × IsMemberWord m word
      × SpellsMembers sign behind others
  first_member words word behind _ free e (one m _ is) =
      absurd (has_sign sign word behind (subst (HasNo sign) e (member_has_no m words is)))
  first_member _ word behind _ free e (more m w rest members is spelled) =
      let parts = one_parting sign w word rest behind (member_has_no m w is) free e in (
        m,
        members,
        refl,
        subst (IsMemberWord m) parts.0 is,
        subst (λ (t : List ℕ). SpellsMembers sign t members) parts.1 spelled,
      )

  -- the last one
  pub last_member : (words : List ℕ) (ms : List Member) → HasNo sign words → SpellsMembers sign words ms
      → (m : Member) × (ms ≡ m ∷ []) × IsMemberWord m words
  last_member words _ free (one m _ is) = (m, refl, is)
  last_member _ _ free (more m w rest members is spelled) = absurd (has_sign sign w rest free)

  -- words tell the members once
  pub members_once : (words : List ℕ) (a b : List Member) → SpellsMembers sign words a
      → SpellsMembers sign words b → a ≡ b
  members_once words _ b (one m _ is) other =
      let alone = last_member words b (member_has_no m words is) other in
      ap (λ (x : Member). x ∷ []) (member_once m alone.0 words is alone.2) ∙ sym alone.1
  members_once _ _ b (more m w rest members is spelled) other =
      let first = first_member (w ++ sign ∷ rest) w rest b (member_has_no m w is) refl other in
      let same : m ≡ first.0 = member_once m first.0 w is first.3 in
      let others : members ≡ first.1 = members_once rest members first.1 spelled first.4 in
      let all : m ∷ members ≡ first.0 ∷ first.1 = cc (same, others) in
      all ∙ sym first.2

  -- ---- reading them one by one

  pub one_read : (words rest word behind : List ℕ) (members : List Member) (m : Member) → HasNo sign word
      → rest ≡ word ++ sign ∷ behind → IsMemberWord m word
      → ReadSoFar sign words members rest → ReadSoFar sign words (members ++ m ∷ []) behind
  one_read words rest word behind members m free e is so_far = (
    λ others spelled. subst (SpellsMembers sign words) (sym (append_assoc members (m ∷ []) others))
        (so_far.0 (m ∷ others) (subst (λ (t : List ℕ). SpellsMembers sign t (m ∷ others)) (sym e)
        (more m word behind others is spelled))),
    λ all spelled.
        let left = so_far.1 all spelled in
        let first = first_member rest word behind left.0 free e left.2 in
        let same : first.0 ≡ m = member_once first.0 m word first.3 is in
        let others : left.0 ≡ m ∷ first.1 = first.2 ∙ ap (λ (x : Member). x ∷ first.1) same in (
          first.1,
          left.1 ∙ ap (λ (xs : List Member). members ++ xs) others
              ∙ sym (append_assoc members (m ∷ []) first.1),
          first.4,
        ),
  )

  -- a word that tells no member
  pub no_member : (words rest word behind : List ℕ) (members : List Member) → HasNo sign word
      → rest ≡ word ++ sign ∷ behind → ((m : Member) → IsMemberWord m word → ⊥)
      → ReadSoFar sign words members rest → (all : List Member) → SpellsMembers sign words all → ⊥
  no_member words rest word behind members free e none so_far all spelled =
      let left = so_far.1 all spelled in
      let first = first_member rest word behind left.0 free e left.2 in
      none first.0 first.3

  pub no_last : (words rest : List ℕ) (members : List Member) → HasNo sign rest
      → ((m : Member) → IsMemberWord m rest → ⊥)
      → ReadSoFar sign words members rest → (all : List Member) → SpellsMembers sign words all → ⊥
  no_last words rest members free none so_far all spelled =
      let left = so_far.1 all spelled in
      let alone = last_member rest left.0 free left.2 in
      none alone.0 alone.2

  some_left : (words : List ℕ) (ms : List Member) → SpellsMembers sign words ms → 1 ≤ length ms
  some_left words _ (one m _ is) = omega arith
  some_left _ _ (more m w rest members is spelled) = omega arith

  -- where seven are read, there are more
  pub too_many : (words rest : List ℕ) (members : List Member) → 7 ≤ length members → ReadSoFar sign words members rest
      → (all : List Member) → SpellsMembers sign words all → length all ≤ 7 → ⊥
  too_many words rest members full so_far all spelled few =
      let left = so_far.1 all spelled in
      let some : 1 ≤ length left.0 = some_left rest left.0 left.2 in
      let sum : length all ≡ length members + length left.0 = ap length left.1 ∙ length-append members left.0 in
      absurd (omega (arith, some, sum, full, few))
