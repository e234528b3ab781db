-- The sessions that a list leaves rise by client.
use Rattle.std.proofs.Common.{◌≡◌, ℕ, zero, suc, ◌+◌, ◌<◌, Bool, true, false, eqb, nat_lt, ◌&&◌, List, [], ◌∷◌, fold}
use Rattle.std.proofs.Common.{slice_get, Some, refl, subst, inl, inr, arith}
use Rattle.std.proofs.lemmas.Bool.{cases_Bool, and_parts, and_from, eqb-true, eqb-false, ltb-true, ltb-false, lt-ltb}
use Rattle.lk_types.specs.declared.genesis.Genesis.{Genesis}
use Rattle.lk_members.specs.Effects.{Command}
use Rattle.lk_state.specs.Meanings.{Meaning}
use Rattle.lk_state.specs.Sessions.{with_session, are_sessions_above}
use Rattle.lk_state.specs.States.{ledger, sessions_of}
use Rattle.lk_state.specs.declared.session.Session.{Session}

-- each client is above the one in front of it
abbrev pub Rise : List Session → Type 0
Rise sessions =
    (k : ℕ) (s t : Session) → slice_get sessions k ≡ Some s → slice_get sessions (k + 1) ≡ Some t → s.client < t.client

abbrev do_rise : List Session → Bool
do_rise [] = true
do_rise (s ∷ l) = are_sessions_above s.client l

greater : (s t : Session) → nat_lt s.client t.client ≡ false → eqb s.client t.client ≡ false
    → nat_lt t.client s.client ≡ true
greater s t not_below other =
    let le = ltb-false s.client t.client not_below in
    let not_same = eqb-false s.client t.client other in
    lt-ltb t.client s.client (omega arith)

above_with : (low : ℕ) (s : Session) (l : List Session) → nat_lt low s.client ≡ true → are_sessions_above low l ≡ true
    → are_sessions_above low (with_session s l) ≡ true
above_with low s [] here h = and_from (nat_lt low s.client) true here refl
above_with low s (t ∷ l) here h =
    let parts = and_parts (nat_lt low t.client) (are_sessions_above t.client l) h in
    elim (cases_Bool (nat_lt s.client t.client)) [
      | inl below ↦ rw below (and_from (nat_lt low s.client)
          (nat_lt s.client t.client && are_sessions_above t.client l) here
          (and_from (nat_lt s.client t.client) (are_sessions_above t.client l) below parts.1))
      | inr not_below ↦ elim (cases_Bool (eqb s.client t.client)) [
        | inl same ↦
            let is = eqb-true s.client t.client same in
            rw (not_below, same) (and_from (nat_lt low s.client) (are_sessions_above s.client l) here (rw is parts.1))
        | inr other ↦ rw (not_below, other)
            (and_from (nat_lt low t.client) (are_sessions_above t.client (with_session s l)) parts.0
            (above_with t.client s l (greater s t not_below other) parts.1))
      ]
    ]

rising_with : (s : Session) (l : List Session) → do_rise l ≡ true → do_rise (with_session s l) ≡ true
rising_with s [] h = refl
rising_with s (t ∷ l) h = elim (cases_Bool (nat_lt s.client t.client)) [
  | inl below ↦ rw below (and_from (nat_lt s.client t.client) (are_sessions_above t.client l) below h)
  | inr not_below ↦ elim (cases_Bool (eqb s.client t.client)) [
    | inl same ↦ let is = eqb-true s.client t.client same in rw (not_below, same) (rw is h)
    | inr other ↦ rw (not_below, other) (above_with t.client s l (greater s t not_below other) h)
  ]
]

all_rise : (sessions more : List Session) → do_rise sessions ≡ true
    → do_rise (fold (λ (l : List Session) (s : Session). with_session s l) sessions more) ≡ true
all_rise sessions [] h = h
all_rise sessions (s ∷ more) h = all_rise (with_session s sessions) more (rising_with s sessions h)

-- ---- from one to the next

next_above : (low : ℕ) (l : List Session) → are_sessions_above low l ≡ true → (t : Session)
    → slice_get l zero ≡ Some t → low < t.client
next_above low [] h t e = absurd cc
next_above low (x ∷ l) h t e =
    let is : x ≡ t = cc in
    subst (λ (y : Session). low < y.client) is
    (ltb-true low x.client (and_parts (nat_lt low x.client) (are_sessions_above x.client l) h).0)

rises : (x : Session) (l : List Session) → are_sessions_above x.client l ≡ true → (k : ℕ) (s t : Session)
    → slice_get (x ∷ l) k ≡ Some s → slice_get l k ≡ Some t → s.client < t.client
rises x l h zero s t e f =
    let is : x ≡ s = cc in
    subst (λ (y : Session). y.client < t.client) is (next_above x.client l h t f)
rises x [] h (suc k) s t e f = absurd cc
rises x (y ∷ l) h (suc k) s t e f =
    rises y l (and_parts (nat_lt x.client y.client) (are_sessions_above y.client l) h).1 k s t e f

rise : (l : List Session) → do_rise l ≡ true → Rise l
rise [] h k s t e f = absurd cc
rise (x ∷ l) h k s t e f =
    let next : k + 1 ≡ suc k = omega arith in
    rises x l h k s t e (subst (λ (n : ℕ). slice_get (x ∷ l) n ≡ Some t) next f)

pub sessions_rise : (m : Meaning) (genesis : Genesis) (L : List Command) → Rise (sessions_of m genesis L)
sessions_rise m genesis L = rise (sessions_of m genesis L) (all_rise [] (ledger m genesis L) refl)
