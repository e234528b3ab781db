-- One command more.
use Rattle.std.proofs.Common.{◌≡◌, ℕ, ◌<◌, Bool, true, false, ◌&&◌, cond, eqb, nat_lt, List, [], ◌∷◌, ◌++◌, Option}
use Rattle.std.proofs.Common.{Some, None, fold, refl, ap, subst, sym, ◌∙◌, inl, inr, arith, append_assoc, append-nil}
use Rattle.std.proofs.Common.{Contains}
use Rattle.std.specs.List.{list_all, filter_map}
use Rattle.std.proofs.lemmas.Bool.{cases_Bool, ltb-true, ltb-false, lt-ltb, eqb-true, eqb-false, ne_eqb}
use Rattle.std.proofs.lemmas.List.Sums.{fold-append}
use Rattle.std.proofs.lemmas.List.Folds.{list_all-append}
use Rattle.std.proofs.lemmas.List.Elements.{filter_map-append}
use Rattle.lk_members.specs.Effects.{Command, RequestValue, Noop, Request, PositionedEntry, is_older, in_effect}
use Rattle.lk_members.specs.Effects.{positioned, effects}
use Rattle.lk_members.specs.Rosters.{Genesis, roster_of}
use Rattle.lk_members.specs.Windows.{RosterValue, roster_after, newest_roster}
use Rattle.lk_members.proofs.Memberships.{positioned-push, added, effects-push, newest_roster-roster_after}
use Rattle.lk_members.proofs.Memberships.{roster_after-push}
use Rattle.lk_state.specs.Meanings.{Meaning}
use Rattle.lk_state.specs.Sessions.{Session, session_of, is_new, with_session}
use Rattle.lk_state.specs.States.{WholeValue, next_text, op_answer, session_in, session_of_entry, text_of, ledger}
use Rattle.lk_state.specs.States.{last_session}
use Rattle.lk_state.specs.States.{sessions_of, whole_after}
use Rattle.lk_state.specs.Runs.{in_effect_now, after_request, ran}
use Rattle.lk_state.proofs.SessionLaws.{do_rise, do_rise-with_session, each_is_its_clients}

module _ {X : Type 0} (P : List X → Type 0) (step : (l : List X) (x : X) → P l → P (l ++ x ∷ [])) where
  from_front : (front rest : List X) → P front → P (front ++ rest)
  from_front front [] p = subst P (sym (append-nil front)) p
  from_front front (x ∷ rest) p =
      subst P (append_assoc front (x ∷ []) rest) (from_front (front ++ x ∷ []) rest (step front x p))

-- what holds of no entry, and of one entry more wherever it holds, holds of every list
pub by_pushes : {X : Type 0} (P : List X → Type 0) → P []
    → ((l : List X) (x : X) → P l → P (l ++ x ∷ [])) → (l : List X) → P l
by_pushes P none step l = from_front P step [] l none

abbrev pub entered : Option Session → List Session
entered None = []
entered (Some s) = s ∷ []

entered_is : (m : Meaning) (genesis : Genesis) (p : PositionedEntry) (o : Option Session)
    → session_of_entry m genesis p ≡ o
    → filter_map (λ (p : PositionedEntry). session_of_entry m genesis p) (p ∷ []) ≡ entered o
entered_is m genesis p None e = rw e refl
entered_is m genesis p (Some s) e = rw e refl

abbrev pub served_here : Meaning → Genesis → List Command → Command → Option Session
served_here m genesis L c = session_in m (roster_of genesis L) (text_of m L) (in_effect L c)

pub ledger-push : (m : Meaning) (genesis : Genesis) (L : List Command) (c : Command)
    → ledger m genesis (L ++ c ∷ []) ≡ ledger m genesis L ++ entered (served_here m genesis L c)
unfolding ledger
ledger-push m genesis L c =
    let p : PositionedEntry = record { before = L; entry = c } in
    ap (filter_map (λ (p : PositionedEntry). session_of_entry m genesis p)) (positioned-push L c)
    ∙ filter_map-append (λ (p : PositionedEntry). session_of_entry m genesis p) (positioned L) (p ∷ [])
    ∙ ap (λ (s : List Session). ledger m genesis L ++ s) (entered_is m genesis p (session_of_entry m genesis p) refl)

-- the machine's text after a request that takes effect, or none
abbrev pub text_behind : Meaning → List ℕ → Option RequestValue → List ℕ
text_behind m text None = text
text_behind m text (Some q) = next_text m text q.client q.op

text_added : (m : Meaning) (text : List ℕ) (o : Option RequestValue)
    → fold (λ (text : List ℕ) (q : RequestValue). next_text m text q.client q.op) text (added o) ≡ text_behind m text o
text_added m text None = refl
text_added m text (Some q) = refl

pub text_of-push : (m : Meaning) (L : List Command) (c : Command)
    → text_of m (L ++ c ∷ []) ≡ text_behind m (text_of m L) (in_effect L c)
unfolding text_of
text_of-push m L c =
    ap (fold (λ (text : List ℕ) (q : RequestValue). next_text m text q.client q.op) m.first) (effects-push L c)
    ∙ fold-append (λ (text : List ℕ) (q : RequestValue). next_text m text q.client q.op) m.first
    (effects L) (added (in_effect L c))
    ∙ text_added m (text_of m L) (in_effect L c)

abbrev sessions_behind : List Session → Option Session → List Session
sessions_behind sessions None = sessions
sessions_behind sessions (Some s) = with_session s sessions

sessions_entered : (sessions : List Session) (o : Option Session)
    → fold (λ (l : List Session) (s : Session). with_session s l) sessions (entered o) ≡ sessions_behind sessions o
sessions_entered sessions None = refl
sessions_entered sessions (Some s) = refl

sessions_of-push : (m : Meaning) (genesis : Genesis) (L : List Command) (c : Command)
    → sessions_of m genesis (L ++ c ∷ []) ≡ sessions_behind (sessions_of m genesis L) (served_here m genesis L c)
sessions_of-push m genesis L c =
    ap (fold (λ (l : List Session) (s : Session). with_session s l) []) (ledger-push m genesis L c)
    ∙ fold-append (λ (l : List Session) (s : Session). with_session s l) [] (ledger m genesis L)
    (entered (served_here m genesis L c))
    ∙ sessions_entered (sessions_of m genesis L) (served_here m genesis L c)

-- the session of a client once one came
pub session_of-with_session : (client : ℕ) (s : Session) (l : List Session)
    → session_of client (with_session s l) ≡ cond (eqb s.client client) (Some s) (session_of client l)
session_of-with_session client s [] = refl
session_of-with_session client s (t ∷ l) =
    elim (cases_Bool (nat_lt s.client t.client)) [
      | inl below ↦ rw below refl
      | inr not_below ↦
          elim (cases_Bool (eqb s.client t.client)) [
            | inl same ↦
                let is = eqb-true s.client t.client same in
                elim (cases_Bool (eqb s.client client)) [
                  | inl mine ↦ rw (not_below, same, mine) refl
                  | inr other ↦ let other_too : eqb t.client client ≡ false = rw is at other in
                      rw (not_below, same, other, other_too) refl
                ]
            | inr apart ↦
                let not_same = eqb-false s.client t.client apart in
                let rest = session_of-with_session client s l in
                elim (cases_Bool (eqb t.client client)) [
                  | inl mine ↦
                      let is = eqb-true t.client client mine in
                      let other : eqb s.client client ≡ false = ne_eqb s.client client (λ e. not_same (e ∙ sym is)) in
                      rw (not_below, apart, mine, other) refl
                  | inr other ↦ rw (not_below, apart, other) rest
                ]
          ]
    ]

-- ---- what takes effect

and_all : (x : Bool) → (x && true) ≡ x
and_all true = refl
and_all false = refl

and_first : (x y : Bool) → (x ≡ true → y ≡ true) → (x && y) ≡ x
and_first true y to = to refl
and_first false y to = refl

and_second : (x y : Bool) → (y ≡ true → x ≡ true) → (x && y) ≡ y
and_second true y to = refl
and_second false true to = to refl
and_second false false to = refl

later_is_new : (o : Option Session) (n k : ℕ) → is_new o n ≡ true → n < k → is_new o k ≡ true
later_is_new None n k e lt = refl
later_is_new (Some s) n k e lt = lt-ltb s.number k (omega (arith, ltb-true s.number n e))

old_is_below : (o : Option Session) (n k : ℕ) → is_new o n ≡ false → is_new o k ≡ true → n < k
old_is_below None n k e h = absurd cc
old_is_below (Some s) n k e h = omega (arith, ltb-false s.number n e, ltb-true s.number k h)

module _ (sessions : List Session) (r q : RequestValue) where
  -- a request that takes effect becomes its client's last one
  effect_by_session : (s : Session) → s.client ≡ q.client → s.number ≡ q.number
      → is_new (session_of q.client sessions) q.number ≡ true
      → (is_new (session_of r.client sessions) r.number && is_older r (Request q))
      ≡ is_new (session_of r.client (with_session s sessions)) r.number
  effect_by_session s client number new =
      let here = session_of-with_session r.client s sessions in
      elim (cases_Bool (eqb q.client r.client)) [
        | inl mine ↦
            let is = eqb-true q.client r.client mine in
            let mine_too : eqb s.client r.client ≡ true = rw client mine in
            let stored : session_of r.client (with_session s sessions) ≡ Some s = here ∙ rw mine_too refl in
            let same : (is_new (session_of r.client sessions) r.number && nat_lt q.number r.number)
            ≡ nat_lt q.number r.number =
            and_second (is_new (session_of r.client sessions) r.number) (nat_lt q.number r.number)
            (λ lt. later_is_new (session_of r.client sessions) q.number r.number (rw is at new)
            (ltb-true q.number r.number lt)) in
            rw (mine, stored, number) same
        | inr other ↦
            let other_too : eqb s.client r.client ≡ false = rw client other in
            let kept : session_of r.client (with_session s sessions) ≡ session_of r.client sessions = here
            ∙ rw other_too refl in
            rw (other, kept) (and_all (is_new (session_of r.client sessions) r.number))
      ]

  -- a request that does not take effect changes no test
  passed_more : is_new (session_of q.client sessions) q.number ≡ false
      → (is_new (session_of r.client sessions) r.number && is_older r (Request q))
      ≡ is_new (session_of r.client sessions) r.number
  passed_more old =
      elim (cases_Bool (eqb q.client r.client)) [
        | inl mine ↦
            let is = eqb-true q.client r.client mine in
            let same : (is_new (session_of r.client sessions) r.number && nat_lt q.number r.number)
            ≡ is_new (session_of r.client sessions) r.number =
            and_first (is_new (session_of r.client sessions) r.number) (nat_lt q.number r.number)
            (λ new. lt-ltb q.number r.number
            (old_is_below (session_of r.client sessions) q.number r.number (rw is at old) new)) in
            rw mine same
        | inr other ↦ rw other (and_all (is_new (session_of r.client sessions) r.number))
      ]

nothing_served : (m : Meaning) (genesis : Genesis) → sessions_of m genesis [] ≡ []
unfolding ledger positioned
nothing_served m genesis = refl

abbrev AreInEffectBySessions : Meaning → Genesis → List Command → Type 0
AreInEffectBySessions m genesis L =
    (r : RequestValue) → list_all (is_older r) L ≡ is_new (session_of r.client (sessions_of m genesis L)) r.number

behind_one : (m : Meaning) (genesis : Genesis) (L : List Command) (c : Command)
    → AreInEffectBySessions m genesis L → (r : RequestValue)
    → (is_new (session_of r.client (sessions_of m genesis L)) r.number && is_older r c)
    ≡ is_new (session_of r.client (sessions_behind (sessions_of m genesis L) (served_here m genesis L c))) r.number
behind_one m genesis L Noop so_far r = and_all (is_new (session_of r.client (sessions_of m genesis L)) r.number)
behind_one m genesis L (Request q) so_far r =
    let sessions : List Session = sessions_of m genesis L in
    let s : Session = record {
      client = q.client;
      number = q.number;
      answer = op_answer m (roster_of genesis L) (text_of m L) q.client q.op;
    } in
    elim (cases_Bool (list_all (is_older q) L)) [
      | inl all ↦ let new : is_new (session_of q.client sessions) q.number ≡ true = sym (so_far q) ∙ all in
          rw all (effect_by_session sessions r q s refl refl new)
      | inr some ↦ let old : is_new (session_of q.client sessions) q.number ≡ false = sym (so_far q) ∙ some in
          rw some (passed_more sessions r q old)
    ]

effect_more : (m : Meaning) (genesis : Genesis) (L : List Command) (c : Command) → AreInEffectBySessions m genesis L
    → AreInEffectBySessions m genesis (L ++ c ∷ [])
effect_more m genesis L c so_far r =
    let old : Bool = list_all (is_older r) L in
    list_all-append (is_older r) L (c ∷ [])
    ∙ ap (λ (b : Bool). old && b) (and_all (is_older r c))
    ∙ ap (λ (b : Bool). b && is_older r c) (so_far r)
    ∙ behind_one m genesis L c so_far r
    ∙ ap (λ (l : List Session). is_new (session_of r.client l) r.number) (sym (sessions_of-push m genesis L c))

-- a request takes effect after a list exactly where its number is above its client's last one
pub is_older-is_new : (m : Meaning) (genesis : Genesis) (L : List Command) → AreInEffectBySessions m genesis L
is_older-is_new m genesis =
    by_pushes (AreInEffectBySessions m genesis) (λ r. rw (nothing_served m genesis) refl) (effect_more m genesis)

pub in_effect-in_effect_now : (m : Meaning) (genesis : Genesis) (L : List Command) (c : Command)
    → in_effect L c ≡ in_effect_now (sessions_of m genesis L) c
in_effect-in_effect_now m genesis L Noop = refl
in_effect-in_effect_now m genesis L (Request r) = rw (is_older-is_new m genesis L r) refl

-- ---- the whole

roster_served : (genesis : Genesis) (L : List Command) (c : Command) (o : Option RequestValue) → in_effect L c ≡ o
    → (m : Meaning) (w : WholeValue) → w.roster ≡ roster_after genesis L
    → roster_after genesis (L ++ c ∷ []) ≡ (after_request m w o).roster
unfolding roster_after
roster_served genesis L c None e m w is = roster_after-push genesis L c genesis.in_range.0 ∙ rw (e, is) refl
roster_served genesis L c (Some q) e m w is = roster_after-push genesis L c genesis.in_range.0 ∙ rw (e, is) refl

sessions_served : (m : Meaning) (genesis : Genesis) (L : List Command) (c : Command) (o : Option RequestValue)
    → in_effect L c ≡ o → (w : WholeValue)
    → newest_roster w.roster ≡ roster_of genesis L → w.sessions ≡ sessions_of m genesis L → w.text ≡ text_of m L
    → sessions_of m genesis (L ++ c ∷ []) ≡ (after_request m w o).sessions
sessions_served m genesis L c None e w r s t = sessions_of-push m genesis L c ∙ rw (e, s) refl
sessions_served m genesis L c (Some q) e w r s t = sessions_of-push m genesis L c ∙ rw (e, s, r, t) refl

text_served : (m : Meaning) (L : List Command) (c : Command) (o : Option RequestValue) → in_effect L c ≡ o
    → (w : WholeValue) → w.text ≡ text_of m L → text_of m (L ++ c ∷ []) ≡ (after_request m w o).text
text_served m L c None e w t = text_of-push m L c ∙ rw (e, t) refl
text_served m L c (Some q) e w t = text_of-push m L c ∙ rw (e, t) refl

same_whole : (a b : WholeValue) → a.roster ≡ b.roster → a.sessions ≡ b.sessions → a.text ≡ b.text → a ≡ b
same_whole a b roster sessions text =
    let made : RosterValue → List Session → List ℕ
    → WholeValue = λ r s t. record { roster = r; sessions = s; text = t } in
    ap (λ (r : RosterValue). made r a.sessions a.text) roster
    ∙ ap (λ (s : List Session). made b.roster s a.text) sessions ∙ ap (λ (t : List ℕ). made b.roster b.sessions t) text

-- what stands after one command more
pub ran-whole_after : (m : Meaning) (genesis : Genesis) (L : List Command) (c : Command)
    → ran m c (whole_after m genesis L) ≡ whole_after m genesis (L ++ c ∷ [])
unfolding whole_after
ran-whole_after m genesis L c =
    let w : WholeValue = whole_after m genesis L in
    let o : Option RequestValue = in_effect_now w.sessions c in
    let e : in_effect L c ≡ o = in_effect-in_effect_now m genesis L c in
    let plain : newest_roster w.roster ≡ roster_of genesis L =
    newest_roster-roster_after genesis L genesis.in_range.0 in
    let roster = roster_served genesis L c o e m w refl in
    let sessions = sessions_served m genesis L c o e w plain refl refl in
    let text = text_served m L c o e w refl in
    same_whole (after_request m w o) (whole_after m genesis (L ++ c ∷ [])) (sym roster) (sym sessions) (sym text)

-- ---- each client's last request

-- the session, or the one of the client that came
abbrev pub session_or : ℕ → Option Session → Option Session → Option Session
session_or client last None = last
session_or client last (Some s) = cond (eqb s.client client) (Some s) last

last_entered : (last : Option Session) (client : ℕ) (o : Option Session)
    → fold (λ (last : Option Session) (s : Session). cond (eqb s.client client) (Some s) last) last (entered o)
    ≡ session_or client last o
last_entered last client None = refl
last_entered last client (Some s) = refl

-- the client's last request after one entry more
pub last_session-push : (m : Meaning) (genesis : Genesis) (L : List Command) (c : Command) (client : ℕ)
    → last_session m genesis (L ++ c ∷ []) client
    ≡ session_or client (last_session m genesis L client) (served_here m genesis L c)
last_session-push m genesis L c client =
    ap (fold (λ (last : Option Session) (s : Session). cond (eqb s.client client) (Some s) last) None)
    (ledger-push m genesis L c)
    ∙ fold-append (λ (last : Option Session) (s : Session). cond (eqb s.client client) (Some s) last) None
    (ledger m genesis L) (entered (served_here m genesis L c))
    ∙ last_entered (last_session m genesis L client) client (served_here m genesis L c)

last_more : (m : Meaning) (genesis : Genesis) (L : List Command) (c : Command)
    → ((client : ℕ) → last_session m genesis L client ≡ session_of client (sessions_of m genesis L))
    → (client : ℕ) → last_session m genesis (L ++ c ∷ []) client
    ≡ session_of client (sessions_of m genesis (L ++ c ∷ []))
last_more m genesis L c so_far client =
    last_session-push m genesis L c client
    ∙ ap (λ (last : Option Session). session_or client last (served_here m genesis L c)) (so_far client)
    ∙ sym (kept (served_here m genesis L c))
    ∙ ap (session_of client) (sym (sessions_of-push m genesis L c))
  where
    kept : (o : Option Session)
        → session_of client (sessions_behind (sessions_of m genesis L) o)
        ≡ session_or client (session_of client (sessions_of m genesis L)) o
    kept None = refl
    kept (Some s) = session_of-with_session client s (sessions_of m genesis L)

pub nothing_last : (m : Meaning) (genesis : Genesis) (client : ℕ) → last_session m genesis [] client ≡ None
unfolding ledger positioned
nothing_last m genesis client = refl

-- the session of a client is that of its last request that takes effect
pub last_session-session_of : (m : Meaning) (genesis : Genesis) (L : List Command) (client : ℕ)
    → last_session m genesis L client ≡ session_of client (sessions_of m genesis L)
last_session-session_of m genesis =
    by_pushes (λ L. (client : ℕ) → last_session m genesis L client ≡ session_of client (sessions_of m genesis L))
    (λ client. rw (nothing_served m genesis) (nothing_last m genesis client)) (last_more m genesis)

sessions_rise : (m : Meaning) (genesis : Genesis) (L : List Command) → do_rise (sessions_of m genesis L) ≡ true
sessions_rise m genesis =
    by_pushes (λ L. do_rise (sessions_of m genesis L) ≡ true) (rw (nothing_served m genesis) refl)
    (λ L c so_far. rw (sessions_of-push m genesis L c)
    (behind (sessions_of m genesis L) (served_here m genesis L c) so_far))
  where
    behind : (l : List Session) (o : Option Session) → do_rise l ≡ true → do_rise (sessions_behind l o) ≡ true
    behind l None h = h
    behind l (Some s) h = do_rise-with_session s l h

-- a session of the state of a list is its client's last request that takes effect
pub sessions_are_last : (m : Meaning) (genesis : Genesis) (L : List Command) (s : Session)
    → Contains (sessions_of m genesis L) s → last_session m genesis L s.client ≡ Some s
sessions_are_last m genesis L s here =
    last_session-session_of m genesis L s.client
    ∙ each_is_its_clients (sessions_of m genesis L) s (sessions_rise m genesis L) here

-- the session of a client in what stands
pub seen_last : (m : Meaning) (genesis : Genesis) (L : List Command) (w : WholeValue) (client : ℕ)
    → w ≡ whole_after m genesis L → session_of client w.sessions ≡ last_session m genesis L client
unfolding whole_after
seen_last m genesis L w client e =
    ap (λ (x : WholeValue). session_of client x.sessions) e ∙ sym (last_session-session_of m genesis L client)

-- ---- before any command

pub nothing_ran : (m : Meaning) (genesis : Genesis)
    → whole_after m genesis [] ≡ record { roster = roster_after genesis []; sessions = []; text = m.first }
unfolding whole_after ledger text_of effects positioned
nothing_ran m genesis = refl

-- what stands before any command
pub whole_after-begin : (m : Meaning) (genesis : Genesis) (w : WholeValue) → w.roster ≡ roster_after genesis []
    → w.sessions ≡ [] → w.text ≡ m.first → w ≡ whole_after m genesis []
whole_after-begin m genesis w roster sessions text =
    let first : WholeValue = record { roster = roster_after genesis []; sessions = []; text = m.first } in
    same_whole w first roster sessions text ∙ sym (nothing_ran m genesis)
