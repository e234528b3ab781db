-- What a request is answered where it takes effect.
use Rattle.std.proofs.Common.{◌≡◌, ℕ, Bool, true, false, ◌&&◌, eqb, nat_lt, List, [], ◌∷◌, ◌++◌, Option, Some, None}
use Rattle.std.proofs.Common.{refl, ap, subst, sym, ◌∙◌, inl, inr, arith, append_assoc, append-nil}
use Rattle.std.specs.Prelude.{find}
use Rattle.std.specs.List.{list_all}
use Rattle.std.specs.Option.{option_map, option_or}
use Rattle.std.proofs.lemmas.Bool.{and_parts, cases_Bool, ltb-true, ne_eqb, eq-eqb}
use Rattle.std.proofs.lemmas.List.Folds.{find-append, list_all-append}
use Rattle.lk_types.specs.declared.answer.Answer.{Answer}
use Rattle.lk_members.specs.Effects.{Command, RequestValue, Noop, Request, is_older, in_effect, positioned}
use Rattle.lk_members.specs.Rosters.{Genesis, roster_of}
use Rattle.lk_members.specs.Windows.{newest_roster}
use Rattle.lk_members.proofs.Memberships.{newest_roster-roster_after}
use Rattle.lk_state.specs.Meanings.{Meaning}
use Rattle.lk_state.specs.Sessions.{Session}
use Rattle.lk_state.specs.States.{WholeValue, op_answer, text_of, ledger, reply, reply_of, whole_after}
use Rattle.lk_state.specs.Runs.{in_effect_now, run_answer}
use Rattle.lk_state.proofs.StateLaws.{by_pushes, entered, served_here, ledger-push, in_effect-in_effect_now}

abbrev is_asked : RequestValue → Session → Bool
is_asked r s = eqb s.client r.client && eqb s.number r.number

other_number : (r q : RequestValue) → is_older r (Request q) ≡ true
    → (eqb q.client r.client && eqb q.number r.number) ≡ false
other_number r q older =
    elim (cases_Bool (eqb q.client r.client)) [
      | inl mine ↦
          let lt : nat_lt q.number r.number ≡ true = rw mine at older in
          let below = ltb-true q.number r.number lt in
          let apart : eqb q.number r.number ≡ false = ne_eqb q.number r.number (λ e. omega arith) in
          rw (mine, apart) refl
      | inr other ↦ rw other refl
    ]

not_entered : (m : Meaning) (genesis : Genesis) (L : List Command) (c : Command) (r : RequestValue)
    → is_older r c ≡ true → find (is_asked r) (entered (served_here m genesis L c)) ≡ None
not_entered m genesis L Noop r older = refl
not_entered m genesis L (Request q) r older =
    let other = other_number r q older in
    elim (cases_Bool (list_all (is_older q) L)) [ inl all ↦ rw (all, other) refl | inr some ↦ rw some refl ]

abbrev AsksNothing : Meaning → Genesis → List Command → Type 0
AsksNothing m genesis L =
    (r : RequestValue) → list_all (is_older r) L ≡ true → find (is_asked r) (ledger m genesis L) ≡ None

nothing_asked : (m : Meaning) (genesis : Genesis) → AsksNothing m genesis []
unfolding ledger positioned
nothing_asked m genesis r older = refl

asks_more : (m : Meaning) (genesis : Genesis) (L : List Command) (c : Command) → AsksNothing m genesis L
    → AsksNothing m genesis (L ++ c ∷ [])
asks_more m genesis L c so_far r older =
    let parts = and_parts (list_all (is_older r) L) (list_all (is_older r) (c ∷ []))
    (sym (list_all-append (is_older r) L (c ∷ [])) ∙ older) in
    let here = and_parts (is_older r c) true parts.1 in
    ap (find (is_asked r)) (ledger-push m genesis L c)
    ∙ find-append (is_asked r) (ledger m genesis L) (entered (served_here m genesis L c))
    ∙ rw (so_far r parts.0) (not_entered m genesis L c r here.0)

-- a request that is about to take effect was not answered before
unanswered : (m : Meaning) (genesis : Genesis) (L : List Command) → AsksNothing m genesis L
unanswered m genesis = by_pushes (AsksNothing m genesis) (nothing_asked m genesis) (asks_more m genesis)

abbrev pub session_now : Meaning → Genesis → List Command → RequestValue → Session
session_now m genesis L r =
    record {
      client = r.client;
      number = r.number;
      answer = op_answer m (roster_of genesis L) (text_of m L) r.client r.op;
    }

pub reply_here : (m : Meaning) (genesis : Genesis) (L : List Command) (r : RequestValue)
    → list_all (is_older r) L ≡ true
    → reply m genesis (L ++ Request r ∷ []) r.client r.number
    ≡ option_map (λ (s : Session). s.answer) (find (is_asked r) (session_now m genesis L r ∷ []))
reply_here m genesis L r all =
    let entries : entered (served_here m genesis L (Request r)) ≡ session_now m genesis L r ∷ [] = rw all refl in
    ap (λ (l : List Session). option_map (λ (s : Session). s.answer) (find (is_asked r) l))
    (ledger-push m genesis L (Request r))
    ∙ ap (option_map (λ (s : Session). s.answer))
    (find-append (is_asked r) (ledger m genesis L) (entered (served_here m genesis L (Request r)))
    ∙ rw (unanswered m genesis L r all, entries) refl)

pub mine_is_asked : (r : RequestValue) → (eqb r.client r.client && eqb r.number r.number) ≡ true
mine_is_asked r = rw (eq-eqb r.client r.client refl, eq-eqb r.number r.number refl) refl

-- what a command is answered is the reply of the list with it
pub run_answer-reply_of : (m : Meaning) (genesis : Genesis) (L : List Command) (c : Command) (w : WholeValue)
    → w ≡ whole_after m genesis L → run_answer m c w ≡ reply_of m genesis (L ++ c ∷ []) (in_effect L c)
unfolding whole_after
run_answer-reply_of m genesis L Noop w e = refl
run_answer-reply_of m genesis L (Request r) w e =
    let now : in_effect L (Request r) ≡ in_effect_now w.sessions (Request r) =
    in_effect-in_effect_now m genesis L (Request r)
    ∙ ap (λ (x : WholeValue). in_effect_now x.sessions (Request r)) (sym e) in
    let plain : newest_roster w.roster ≡ roster_of genesis L = ap (λ (x : WholeValue). newest_roster x.roster) e
    ∙ newest_roster-roster_after genesis L genesis.in_range.0 in
    let text : w.text ≡ text_of m L = ap (λ (x : WholeValue). x.text) e in
    elim (cases_Bool (list_all (is_older r) L)) [
      | inl all ↦
          let counts : in_effect_now w.sessions (Request r) ≡ Some r = sym now ∙ rw all refl in
          let asked = mine_is_asked r in
          let told = reply_here m genesis L r all in
          let said : Answer = op_answer m (roster_of genesis L) (text_of m L) r.client r.op in
          let left : run_answer m (Request r) w ≡ Some said = rw (counts, plain, text) refl in
          let right : reply_of m genesis (L ++ Request r ∷ []) (in_effect L (Request r)) ≡ Some said =
          rw all (told ∙ rw asked refl) in
          left ∙ sym right
      | inr some ↦
          let not_counted : in_effect_now w.sessions (Request r) ≡ None = sym now ∙ rw some refl in
          let left : run_answer m (Request r) w ≡ None = rw not_counted refl in
          let right : reply_of m genesis (L ++ Request r ∷ []) (in_effect L (Request r)) ≡ None = rw some refl in
          left ∙ sym right
    ]

-- ---- a longer list

-- what is found in front is found
found_front : {X Y : Type 0} (f : X → Y) (o p : Option X) (y : Y) → option_map f o ≡ Some y
    → option_map f (option_or o p) ≡ Some y
found_front f None p y e = absurd cc
found_front f (Some x) p y e = e

reply-push : (m : Meaning) (genesis : Genesis) (L : List Command) (c : Command) (client number : ℕ) (a : Answer)
    → reply m genesis L client number ≡ Some a → reply m genesis (L ++ c ∷ []) client number ≡ Some a
reply-push m genesis L c client number a e =
    rw (
      ledger-push m genesis L c,
      find-append (λ (s : Session). eqb s.client client && eqb s.number number) (ledger m genesis L),
    )
    (found_front (λ (s : Session). s.answer)
    (find (λ (s : Session). eqb s.client client && eqb s.number number) (ledger m genesis L)) _ a e)

-- a reply stays as the list grows
pub replies_stay : (m : Meaning) (genesis : Genesis) (L rest : List Command) (client number : ℕ) (a : Answer)
    → reply m genesis L client number ≡ Some a → reply m genesis (L ++ rest) client number ≡ Some a
replies_stay m genesis L [] client number a e =
    subst (λ (l : List Command). reply m genesis l client number ≡ Some a) (sym (append-nil L)) e
replies_stay m genesis L (c ∷ rest) client number a e =
    subst (λ (l : List Command). reply m genesis l client number ≡ Some a) (append_assoc L (c ∷ []) rest)
    (replies_stay m genesis (L ++ c ∷ []) rest client number a (reply-push m genesis L c client number a e))
