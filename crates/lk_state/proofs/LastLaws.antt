-- Replies, and the last request of each client.
use Rattle.std.proofs.Common.{◌≡◌, ℕ, Bool, true, false, ◌&&◌, ◌⊎◌, cond, eqb, nat_lt, List, [], ◌∷◌, ◌++◌, Option}
use Rattle.std.proofs.Common.{Some, None, refl, ap, subst, sym, ◌∙◌, inl, inr, arith}
use Rattle.std.specs.Prelude.{Contains, find}
use Rattle.std.specs.List.{list_all, filter_map, cons_option}
use Rattle.std.specs.Option.{option_map, option_or}
use Rattle.std.proofs.lemmas.Bool.{and_parts, cases_Bool, ltb-false, le-leb, eqb-true}
use Rattle.std.proofs.lemmas.List.Folds.{find-append}
use Rattle.std.proofs.lemmas.List.Elements.{Contains-append_left, Contains-append_right, Contains-push}
use Rattle.std.proofs.lemmas.List.Elements.{Contains-push_cases}
use Rattle.lk_types.specs.declared.answer.Answer.{Answer}
use Rattle.lk_members.specs.Effects.{Command, RequestValue, Noop, Request, PositionedEntry, is_older, in_effect}
use Rattle.lk_members.specs.Effects.{positioned}
use Rattle.lk_members.specs.Effects.{is_of_another, is_at_most, IsLast}
use Rattle.lk_members.specs.Rosters.{Genesis}
use Rattle.lk_members.proofs.Memberships.{positioned-push, all_of_another-push, IsLast-push, IsLast-new}
use Rattle.lk_state.specs.Meanings.{Meaning}
use Rattle.lk_state.specs.Sessions.{Session, is_at, is_new}
use Rattle.lk_state.specs.States.{session_of_entry, ledger, reply, last_session}
use Rattle.lk_state.proofs.StateLaws.{by_pushes, entered, served_here, ledger-push, is_older-is_new, session_or}
use Rattle.lk_state.proofs.StateLaws.{last_session-push, nothing_last, last_session-session_of}
use Rattle.lk_state.proofs.ReplyLaws.{session_now, reply_here, mine_is_asked}

older-is_new_last : (m : Meaning) (genesis : Genesis) (L : List Command) (r : RequestValue)
    → list_all (is_older r) L ≡ is_new (last_session m genesis L r.client) r.number
older-is_new_last m genesis L r =
    is_older-is_new m genesis L r
    ∙ ap (λ (o : Option Session). is_new o r.number) (sym (last_session-session_of m genesis L r.client))

-- a request takes effect after a list exactly where its number is above that of its client's last one that takes effect
pub takes_effect_above_last : (m : Meaning) (genesis : Genesis) (L : List Command) (r : RequestValue)
    → in_effect L (Request r) ≡ cond (is_new (last_session m genesis L r.client) r.number) (Some r) None
takes_effect_above_last m genesis L r = ap (λ (b : Bool). cond b (Some r) None) (older-is_new_last m genesis L r)

-- ---- replies

passes : {X : Type 0} (test : X → Bool) (xs : List X) (x : X) → find test xs ≡ Some x → test x ≡ true
passes test [] x e = absurd cc
passes test (y ∷ xs) x e =
    elim (cases_Bool (test y)) [
      | inl here ↦ let found : Some y ≡ Some x = rw here at e in let same : y ≡ x = cc in rw (← same) here
      | inr not_here ↦ passes test xs x (rw not_here at e)
    ]

module _ {X Y : Type 0} (h : X → Option Y) (test : Y → Bool) where
  -- h gives it for an element
  abbrev IsGiven : List X → Y → Type 0
  IsGiven xs y = (x : X) × Contains xs x × (h x ≡ Some y)

  given_later : (x : X) (xs : List X) (y : Y) → IsGiven xs y → IsGiven (x ∷ xs) y
  given_later x xs y later = (later.0, Contains-append_right (x ∷ []) xs later.0 later.1, later.2)

  found_first : (x : X) (xs : List X) (y : Y) (o : Option Y) → h x ≡ o
      → (find test (filter_map h xs) ≡ Some y → IsGiven xs y)
      → find test (cons_option o (filter_map h xs)) ≡ Some y → IsGiven (x ∷ xs) y
  found_first x xs y None given later found = given_later x xs y (later found)
  found_first x xs y (Some z) given later found =
      elim (cases_Bool (test z)) [
        | inl here ↦ let first : Some z ≡ Some y = rw here at found in
            (x, Contains-append_left (x ∷ []) xs x (Contains-push [] x), given ∙ first)
        | inr not_here ↦ given_later x xs y (later (rw not_here at found))
      ]

  -- what is found among what h gives was given for an element
  found_in : (xs : List X) (y : Y) → find test (filter_map h xs) ≡ Some y → IsGiven xs y
  found_in [] y found = absurd cc
  found_in (x ∷ xs) y found = found_first x xs y (h x) refl (found_in xs y) found

answer_of : (o : Option Session) (a : Answer) → option_map (λ (s : Session). s.answer) o ≡ Some a
    → (s : Session) × (o ≡ Some s) × (s.answer ≡ a)
answer_of None a e = absurd cc
answer_of (Some s) a e = (s, refl, cc)

same_session : (s : Session) (client number : ℕ) (a : Answer) → s.client ≡ client → s.number ≡ number → s.answer ≡ a
    → s ≡ record { client = client; number = number; answer = a }
same_session s client number a is_client is_number is_answer =
    let made : ℕ → ℕ → Answer → Session = λ c n t. record { client = c; number = n; answer = t } in
    ap (λ (c : ℕ). made c s.number s.answer) is_client ∙ ap (λ (n : ℕ). made client n s.answer) is_number
    ∙ ap (made client number) is_answer

abbrev is_numbered : ℕ → ℕ → Session → Bool
is_numbered client number s = eqb s.client client && eqb s.number number

-- a reply is what an entry that takes effect gets at its place
pub replies_come_from_entries : (m : Meaning) (genesis : Genesis) (L : List Command) (client number : ℕ) (a : Answer)
    → reply m genesis L client number ≡ Some a
    → (p : PositionedEntry) × Contains (positioned L) p
    × (session_of_entry m genesis p ≡ Some (record { client = client; number = number; answer = a }))
unfolding ledger
replies_come_from_entries m genesis L client number a e =
    let test : Session → Bool = is_numbered client number in
    let said = answer_of (find test (ledger m genesis L)) a e in
    let place = found_in (λ (p : PositionedEntry). session_of_entry m genesis p) test (positioned L) said.0 said.1 in
    let asked = and_parts (eqb said.0.client client) (eqb said.0.number number)
    (passes test (ledger m genesis L) said.0 said.1) in
    let same = same_session said.0 client number a (eqb-true said.0.client client asked.0)
    (eqb-true said.0.number number asked.1) said.2 in
    (place.0, place.1, place.2 ∙ ap Some same)

kept_answer : (o more : Option Session) (a : Answer) → option_map (λ (s : Session). s.answer) o ≡ Some a
    → option_map (λ (s : Session). s.answer) (option_or o more) ≡ Some a
kept_answer None more a e = absurd cc
kept_answer (Some s) more a e = e

-- a reply stays
reply-push : (m : Meaning) (genesis : Genesis) (L : List Command) (c : Command) (client number : ℕ) (a : Answer)
    → reply m genesis L client number ≡ Some a → reply m genesis (L ++ c ∷ []) client number ≡ Some a
reply-push m genesis L c client number a e =
    let test : Session → Bool = is_numbered client number in
    let more : List Session = entered (served_here m genesis L c) in
    ap (λ (l : List Session). option_map (λ (s : Session). s.answer) (find test l)) (ledger-push m genesis L c)
    ∙ ap (option_map (λ (s : Session). s.answer)) (find-append test (ledger m genesis L) more)
    ∙ kept_answer (find test (ledger m genesis L)) (find test more) a e

-- what takes effect at the end of a list has the reply there
reply-new : (m : Meaning) (genesis : Genesis) (L : List Command) (c : Command) (s : Session)
    → served_here m genesis L c ≡ Some s → reply m genesis (L ++ c ∷ []) s.client s.number ≡ Some s.answer
reply-new m genesis L Noop s e = absurd cc
reply-new m genesis L (Request r) s e =
    elim (cases_Bool (list_all (is_older r) L)) [
      | inl all ↦
          let now : Some (session_now m genesis L r) ≡ Some s = rw all at e in
          let same : session_now m genesis L r ≡ s = cc in
          let asked = mine_is_asked r in
          subst (λ (t : Session). reply m genesis (L ++ Request r ∷ []) t.client t.number ≡ Some t.answer) same
          (reply_here m genesis L r all ∙ rw asked refl)
      | inr some ↦ let none : None ≡ Some s = rw some at e in absurd cc
    ]

abbrev IsRepliedWhereServed : Meaning → Genesis → List Command → Type 0
IsRepliedWhereServed m genesis L =
    (p : PositionedEntry) (s : Session) → Contains (positioned L) p → session_of_entry m genesis p ≡ Some s
    → reply m genesis L s.client s.number ≡ Some s.answer

replied_more : (m : Meaning) (genesis : Genesis) (L : List Command) (c : Command) → IsRepliedWhereServed m genesis L
    → IsRepliedWhereServed m genesis (L ++ c ∷ [])
replied_more m genesis L c so_far p s stands is =
    let last : PositionedEntry = record { before = L; entry = c } in
    elim (Contains-push_cases (positioned L) last p
    (subst (λ (ps : List PositionedEntry). Contains ps p) (positioned-push L c) stands)) [
      | inl before ↦ reply-push m genesis L c s.client s.number s.answer (so_far p s before is)
      | inr here ↦ reply-new m genesis L c s (ap (λ (q : PositionedEntry). session_of_entry m genesis q) here ∙ is)
    ]

nothing_placed : (p : PositionedEntry) → Contains (positioned []) p → ⊥
unfolding positioned
nothing_placed p (k, lt, is) = omega arith

-- what an entry that takes effect is answered at its position is the reply of its client's number
pub one_reply : (m : Meaning) (genesis : Genesis) (L : List Command) (p : PositionedEntry) (s : Session)
    → Contains (positioned L) p → session_of_entry m genesis p ≡ Some s
    → reply m genesis L s.client s.number ≡ Some s.answer
one_reply m genesis = by_pushes (IsRepliedWhereServed m genesis)
    (λ p s stands is. absurd (nothing_placed p stands)) (replied_more m genesis)

-- ---- the last request of a client

-- the client's last one is the one that came, or stays and no other of the client came
last_is : (client : ℕ) (last o : Option Session) (s : Session) → session_or client last o ≡ Some s
    → ((o ≡ Some s) × (s.client ≡ client)) ⊎ ((last ≡ Some s) × (is_at client o ≡ false))
last_is client last None s e = inr (e, refl)
last_is client last (Some t) s e =
    elim (cases_Bool (eqb t.client client)) [
      | inl mine ↦
          let now : Some t ≡ Some s = rw mine at e in
          let same : t ≡ s = cc in
          inl (now, ap (λ (x : Session). x.client) (sym same) ∙ eqb-true t.client client mine)
      | inr other ↦ inr (rw other at e, other)
    ]

abbrev IsReplied : Meaning → Genesis → List Command → Type 0
IsReplied m genesis L = (client : ℕ) (s : Session) → last_session m genesis L client ≡ Some s
    → reply m genesis L client s.number ≡ Some s.answer

last_replied_more : (m : Meaning) (genesis : Genesis) (L : List Command) (c : Command) → IsReplied m genesis L
    → IsReplied m genesis (L ++ c ∷ [])
last_replied_more m genesis L c so_far client s last =
    elim (last_is client (last_session m genesis L client) (served_here m genesis L c) s
    (sym (last_session-push m genesis L c client) ∙ last)) [
      | inl now ↦ subst (λ (n : ℕ). reply m genesis (L ++ c ∷ []) n s.number ≡ Some s.answer) now.1
          (reply-new m genesis L c s now.0)
      | inr before ↦ reply-push m genesis L c client s.number s.answer (so_far client s before.0)
    ]

nobody_last : (m : Meaning) (genesis : Genesis) (client : ℕ) (s : Session)
    → last_session m genesis [] client ≡ Some s → ⊥
nobody_last m genesis client s e = let none = nothing_last m genesis client in cc

-- what a client's last request that takes effect was answered is its reply
pub last_is_replied : (m : Meaning) (genesis : Genesis) (L : List Command) (client : ℕ) (s : Session)
    → last_session m genesis L client ≡ Some s → reply m genesis L client s.number ≡ Some s.answer
last_is_replied m genesis =
    by_pushes (IsReplied m genesis) (λ client s e. absurd (nobody_last m genesis client s e))
    (last_replied_more m genesis)

abbrev IsGreatest : Meaning → Genesis → List Command → Type 0
IsGreatest m genesis L =
    (client : ℕ) (s : Session) → last_session m genesis L client ≡ Some s → IsLast L client s.number

new_is_greatest : (m : Meaning) (genesis : Genesis) (L : List Command) (c : Command) (s : Session)
    → served_here m genesis L c ≡ Some s → IsLast (L ++ c ∷ []) s.client s.number
new_is_greatest m genesis L Noop s e = absurd cc
new_is_greatest m genesis L (Request r) s e =
    elim (cases_Bool (list_all (is_older r) L)) [
      | inl all ↦
          let now : Some (session_now m genesis L r) ≡ Some s = rw all at e in
          let same : session_now m genesis L r ≡ s = cc in
          subst (λ (t : Session). IsLast (L ++ Request r ∷ []) t.client t.number) same (IsLast-new L r all)
      | inr some ↦ let none : None ≡ Some s = rw some at e in absurd cc
    ]

-- an entry of the client that does not take effect has no greater number
old_is_at_most : (m : Meaning) (genesis : Genesis) (L : List Command) (c : Command) (client : ℕ) (s : Session)
    → last_session m genesis L client ≡ Some s → is_at client (served_here m genesis L c) ≡ false
    → is_at_most client s.number c ≡ true
old_is_at_most m genesis L Noop client s last not_here = refl
old_is_at_most m genesis L (Request r) client s last not_here =
    elim (cases_Bool (eqb r.client client)) [
      | inr other ↦ rw other refl
      | inl mine ↦
          elim (cases_Bool (list_all (is_older r) L)) [
            | inl all ↦ let other : eqb r.client client ≡ false = rw all at not_here in absurd cc
            | inr some ↦
                let is = eqb-true r.client client mine in
                let old : is_new (last_session m genesis L client) r.number ≡ false =
                ap (λ (n : ℕ). is_new (last_session m genesis L n) r.number) (sym is)
                ∙ sym (older-is_new_last m genesis L r) ∙ some in
                let below : nat_lt s.number r.number ≡ false = rw last at old in
                let least = ltb-false s.number r.number below in
                let at_most = le-leb r.number s.number least in
                rw (mine, at_most) refl
          ]
    ]

greatest_more : (m : Meaning) (genesis : Genesis) (L : List Command) (c : Command) → IsGreatest m genesis L
    → IsGreatest m genesis (L ++ c ∷ [])
greatest_more m genesis L c so_far client s last =
    elim (last_is client (last_session m genesis L client) (served_here m genesis L c) s
    (sym (last_session-push m genesis L c client) ∙ last)) [
      | inl now ↦ subst (λ (n : ℕ). IsLast (L ++ c ∷ []) n s.number) now.1 (new_is_greatest m genesis L c s now.0)
      | inr before ↦ IsLast-push L c client s.number (so_far client s before.0)
          (old_is_at_most m genesis L c client s before.0 before.1)
    ]

-- a client's last request that takes effect has the greatest number that it used
pub last_is_greatest : (m : Meaning) (genesis : Genesis) (L : List Command) (client : ℕ) (s : Session)
    → last_session m genesis L client ≡ Some s → IsLast L client s.number
last_is_greatest m genesis =
    by_pushes (IsGreatest m genesis) (λ client s e. absurd (nobody_last m genesis client s e)) (greatest_more m genesis)

abbrev IsUnused : Meaning → Genesis → List Command → Type 0
IsUnused m genesis L = (client : ℕ) → last_session m genesis L client ≡ None → list_all (is_of_another client) L ≡ true

none_came : (client : ℕ) (last o : Option Session) → session_or client last o ≡ None
    → (last ≡ None) × (is_at client o ≡ false)
none_came client last None e = (e, refl)
none_came client last (Some t) e =
    elim (cases_Bool (eqb t.client client)) [
      | inl mine ↦ let now : Some t ≡ None = rw mine at e in absurd cc
      | inr other ↦ (rw other at e, other)
    ]

first_would_take_effect : (m : Meaning) (genesis : Genesis) (L : List Command) (c : Command) (client : ℕ)
    → last_session m genesis L client ≡ None → is_at client (served_here m genesis L c) ≡ false
    → is_of_another client c ≡ true
first_would_take_effect m genesis L Noop client none not_here = refl
first_would_take_effect m genesis L (Request r) client none not_here =
    elim (cases_Bool (eqb r.client client)) [
      | inr other ↦ rw other refl
      | inl mine ↦
          let is = eqb-true r.client client mine in
          let all : list_all (is_older r) L ≡ true = older-is_new_last m genesis L r
          ∙ ap (λ (n : ℕ). is_new (last_session m genesis L n) r.number) is
          ∙ ap (λ (o : Option Session). is_new o r.number) none in
          let other : eqb r.client client ≡ false = rw all at not_here in
          absurd cc
    ]

unused_more : (m : Meaning) (genesis : Genesis) (L : List Command) (c : Command) → IsUnused m genesis L
    → IsUnused m genesis (L ++ c ∷ [])
unused_more m genesis L c so_far client none =
    let before = none_came client (last_session m genesis L client) (served_here m genesis L c)
    (sym (last_session-push m genesis L c client) ∙ none) in
    all_of_another-push client L c (so_far client before.0)
    (first_would_take_effect m genesis L c client before.0 before.1)

-- a client of which no request takes effect has none in the list
pub none_is_unused : (m : Meaning) (genesis : Genesis) (L : List Command) (client : ℕ)
    → last_session m genesis L client ≡ None → list_all (is_of_another client) L ≡ true
none_is_unused m genesis = by_pushes (IsUnused m genesis) (λ client none. refl) (unused_more m genesis)
