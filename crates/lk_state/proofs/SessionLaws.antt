-- What one session more makes of the sessions.
use Rattle.std.proofs.Common.{◌≡◌, ℕ, zero, suc, ◌+◌, ◌<◌, ◌≤◌, Bool, true, false, cond, eqb, nat_lt, ◌&&◌, List, []}
use Rattle.std.proofs.Common.{◌∷◌, length, get_or, Some, None, Contains, refl, ap, subst, sym, inl, inr, arith}
use Rattle.std.specs.Prelude.{slice_get, slice_set, insert}
use Rattle.std.specs.List.Sorted.{IsNonDecreasingBy, IsPartitionPoint}
use Rattle.std.specs.List.{AllByRecursion, prefix_len}
use Rattle.std.proofs.lemmas.Bool.{and_parts, and_from, cases_Bool, ltb-true, ltb-false, lt-ltb, le-ltb, eqb-true}
use Rattle.std.proofs.lemmas.Bool.{eqb-false, eq-eqb, ne_eqb}
use Rattle.std.proofs.lemmas.List.Sums.{prefix_len-le-length, prefix_len_is}
use Rattle.std.proofs.lemmas.List.Edits.{length-insert}
use Rattle.lk_types.specs.declared.answer.Answer.TheVariants.{Bad}
use Rattle.lk_state.specs.Sessions.{Session, session_of, if_of_client, is_at, with_session, are_sessions_above}
use Rattle.lk_state.specs.Sessions.{IsSession, AreSessions}

-- how many stand before the client
abbrev pub before : ℕ → List Session → ℕ
before client l = prefix_len (λ (s : Session). nat_lt s.client client) l

before_lower : (client : ℕ) (t : Session) (l : List Session) → nat_lt t.client client ≡ true
    → before client (t ∷ l) ≡ suc (before client l)
before_lower client t l lower = let n : ℕ = before client l in let e : 1 + n ≡ suc n = omega arith in rw lower e

-- the client's session is replaced where it stands
pub replaced : (s : Session) (l : List Session) → is_at s.client (slice_get l (before s.client l)) ≡ true
    → slice_set l (before s.client l) s ≡ with_session s l
replaced s [] h = absurd cc
replaced s (t ∷ l) h =
    elim (cases_Bool (nat_lt t.client s.client)) [
      | inl lower ↦
          let lt = ltb-true t.client s.client lower in
          let not_below : nat_lt s.client t.client ≡ false = le-ltb s.client t.client (omega arith) in
          let not_same : eqb s.client t.client ≡ false = ne_eqb s.client t.client (λ e. omega arith) in
          let more = before_lower s.client t l lower in
          let here : is_at s.client (slice_get l (before s.client l)) ≡ true = rw more at h in
          rw (more, not_below, not_same) (ap (λ (ts : List Session). t ∷ ts) (replaced s l here))
      | inr not_lower ↦
          let le = ltb-false t.client s.client not_lower in
          let none : before s.client (t ∷ l) ≡ 0 = rw not_lower refl in
          let same : eqb t.client s.client ≡ true = rw none at h in
          let is = eqb-true t.client s.client same in
          let not_below : nat_lt s.client t.client ≡ false = le-ltb s.client t.client (omega arith) in
          let same_here : eqb s.client t.client ≡ true = eq-eqb s.client t.client (sym is) in
          rw (none, not_below, same_here) refl
    ]

-- a new client's session comes in at its place
pub inserted : (s : Session) (l : List Session) → is_at s.client (slice_get l (before s.client l)) ≡ false
    → insert l (before s.client l) s ≡ with_session s l
inserted s [] h = refl
inserted s (t ∷ l) h =
    elim (cases_Bool (nat_lt t.client s.client)) [
      | inl lower ↦
          let lt = ltb-true t.client s.client lower in
          let not_below : nat_lt s.client t.client ≡ false = le-ltb s.client t.client (omega arith) in
          let not_same : eqb s.client t.client ≡ false = ne_eqb s.client t.client (λ e. omega arith) in
          let more = before_lower s.client t l lower in
          let here : is_at s.client (slice_get l (before s.client l)) ≡ false = rw more at h in
          rw (more, not_below, not_same) (ap (λ (ts : List Session). t ∷ ts) (inserted s l here))
      | inr not_lower ↦
          let le = ltb-false t.client s.client not_lower in
          let none : before s.client (t ∷ l) ≡ 0 = rw not_lower refl in
          let other : eqb t.client s.client ≡ false = rw none at h in
          let is_not = eqb-false t.client s.client other in
          let below : nat_lt s.client t.client ≡ true = lt-ltb s.client t.client (omega arith) in
          rw (none, below) refl
    ]

sessions_and : (s : Session) (l : List Session) → IsSession s → AllByRecursion IsSession l
    → AllByRecursion IsSession (with_session s l)
sessions_and s [] here all = (here, tt)
sessions_and s (t ∷ l) here all =
    elim (cases_Bool (nat_lt s.client t.client)) [
      | inl below ↦ rw below (here, all)
      | inr not_below ↦
          elim (cases_Bool (eqb s.client t.client)) [
            | inl same ↦ rw (not_below, same) (here, all.1)
            | inr other ↦ rw (not_below, other) (all.0, sessions_and s l here all.1)
          ]
    ]

rising_and : (low : ℕ) (s : Session) (l : List Session) → low < s.client → are_sessions_above low l ≡ true
    → are_sessions_above low (with_session s l) ≡ true
rising_and low s [] above h = and_from (nat_lt low s.client) true (lt-ltb low s.client above) refl
rising_and low s (t ∷ l) above h =
    let parts = and_parts (nat_lt low t.client) (are_sessions_above t.client l) h in
    let here = lt-ltb low s.client above in
    elim (cases_Bool (nat_lt s.client t.client)) [
      | inl below ↦ rw below (and_from (nat_lt low s.client)
          (nat_lt s.client t.client && are_sessions_above t.client l) here
          (and_from (nat_lt s.client t.client) (are_sessions_above t.client l) below parts.1))
      | inr not_below ↦
          let le = ltb-false s.client t.client not_below in
          elim (cases_Bool (eqb s.client t.client)) [
            | inl same ↦
                let is = eqb-true s.client t.client same in
                rw (not_below, same) (and_from (nat_lt low s.client)
                (are_sessions_above s.client l) here (rw is parts.1))
            | inr other ↦
                let not_same = eqb-false s.client t.client other in
                rw (not_below, other) (and_from (nat_lt low t.client)
                (are_sessions_above t.client (with_session s l)) parts.0
                (rising_and t.client s l (omega arith) parts.1))
          ]
    ]

-- one session more leaves them sessions
pub with_session-fits : (s : Session) (l : List Session) → IsSession s → AreSessions l → AreSessions (with_session s l)
with_session-fits s l here h = (sessions_and s l here h.0, rising_and 0 s l (omega (arith, here.0.0)) h.1)

few_above : (low : ℕ) (l : List Session) → low ≤ 256 → AllByRecursion IsSession l
    → are_sessions_above low l ≡ true → length l + low ≤ 256
few_above low [] le all h = omega arith
few_above low (s ∷ l) le all h =
    let parts = and_parts (nat_lt low s.client) (are_sessions_above s.client l) h in
    let above = ltb-true low s.client parts.0 in
    let client = all.0.0.1 in
    let rest = few_above s.client l client all.1 parts.1 in
    omega arith

-- no more than there are clients
pub few_sessions : (l : List Session) → AreSessions l → length l ≤ 256
few_sessions l h = omega (arith, few_above 0 l (omega arith) h.0 h.1)

-- there is room for a new client's session
pub room_for : (s : Session) (l : List Session) → IsSession s → AreSessions l
    → is_at s.client (slice_get l (before s.client l)) ≡ false → length l < 256
room_for s l here h new =
    let le = prefix_len-le-length (λ (t : Session). nat_lt t.client s.client) l in
    let many = ap length (inserted s l new) in
    omega (
      arith,
      few_sessions (with_session s l) (with_session-fits s l here h),
      many,
      length-insert l (before s.client l) s le,
    )

-- ---- finding a client's session

-- each client of rising sessions is above the one in front of them
above : (low : ℕ) (l : List Session) → are_sessions_above low l ≡ true → (k : ℕ) (d : Session) → k < length l
    → low < (get_or l k d).client
above low [] h k d lt = absurd (omega arith)
above low (s ∷ l) h zero d lt =
    ltb-true low s.client (and_parts (nat_lt low s.client) (are_sessions_above s.client l) h).0
above low (s ∷ l) h (suc k) d lt =
    let parts = and_parts (nat_lt low s.client) (are_sessions_above s.client l) h in
    omega (arith, ltb-true low s.client parts.0, above s.client l parts.1 k d (omega arith))

-- rising sessions rise by client
pub clients_rise : (low : ℕ) (l : List Session) → are_sessions_above low l ≡ true
    → IsNonDecreasingBy (λ (s : Session). s.client) l
clients_rise low [] h i j d le lt = absurd (omega arith)
clients_rise low (s ∷ l) h zero zero d le lt = omega arith
clients_rise low (s ∷ l) h zero (suc j) d le lt =
    omega (
      arith,
      above s.client l
          (and_parts (nat_lt low s.client) (are_sessions_above s.client l) h).1 j d (omega arith),
    )
clients_rise low (s ∷ l) h (suc i) zero d le lt = absurd (omega arith)
clients_rise low (s ∷ l) h (suc i) (suc j) d le lt =
    clients_rise s.client l (and_parts (nat_lt low s.client) (are_sessions_above s.client l) h).1 i j d
    (omega arith) (omega arith)

-- where the clients in front are below and the others are not
pub index_is_before : (client n : ℕ) (l : List Session)
    → IsPartitionPoint (λ (s : Session). nat_lt s.client client ≡ true)
    (λ (s : Session). nat_lt s.client client ≡ false) l n → n ≤ length l → n ≡ before client l
index_is_before client n l point le =
    sym (prefix_len_is (λ (s : Session). nat_lt s.client client) l n
    (record { client = 0; number = 0; answer = Bad }) le (λ k lt. point.0 k _ (omega arith) lt)
    (λ lt. point.1 n _ (omega arith) lt))

none_above : (client low : ℕ) (l : List Session) → client ≤ low → are_sessions_above low l ≡ true
    → session_of client l ≡ None
none_above client low [] le h = refl
none_above client low (s ∷ l) le h =
    let parts = and_parts (nat_lt low s.client) (are_sessions_above s.client l) h in
    let lt = ltb-true low s.client parts.0 in
    let other : eqb s.client client ≡ false = ne_eqb s.client client (λ e. omega arith) in
    rw other (none_above client s.client l (omega arith) parts.1)

-- in rising sessions a client's stands after those of smaller clients, or nowhere
pub session_of-before : (client low : ℕ) (l : List Session) → are_sessions_above low l ≡ true
    → session_of client l ≡ if_of_client client (slice_get l (before client l))
session_of-before client low [] h = refl
session_of-before client low (s ∷ l) h =
    let parts = and_parts (nat_lt low s.client) (are_sessions_above s.client l) h in
    elim (cases_Bool (nat_lt s.client client)) [
      | inl lower ↦
          let lt = ltb-true s.client client lower in
          let other : eqb s.client client ≡ false = ne_eqb s.client client (λ e. omega arith) in
          let more = before_lower client s l lower in
          rw (other, more) (session_of-before client s.client l parts.1)
      | inr not_lower ↦
          let le = ltb-false s.client client not_lower in
          let none : before client (s ∷ l) ≡ 0 = rw not_lower refl in
          elim (cases_Bool (eqb s.client client)) [
            | inl same ↦ rw (none, same) refl
            | inr other ↦ rw (none, other) (none_above client s.client l le parts.1)
          ]
    ]

-- ---- rising sessions, whatever their clients

-- each client is above the one before
abbrev pub do_rise : List Session → Bool
do_rise [] = true
do_rise (s ∷ l) = are_sessions_above s.client l

-- one session more leaves them rising
pub do_rise-with_session : (s : Session) (l : List Session) → do_rise l ≡ true → do_rise (with_session s l) ≡ true
do_rise-with_session s [] h = refl
do_rise-with_session s (t ∷ l) h =
    elim (cases_Bool (nat_lt s.client t.client)) [
      | inl below ↦ rw below (and_from (nat_lt s.client t.client) (are_sessions_above t.client l) below h)
      | inr not_below ↦
          let le = ltb-false s.client t.client not_below in
          elim (cases_Bool (eqb s.client t.client)) [
            | inl same ↦ let is = eqb-true s.client t.client same in rw (not_below, same) (rw is h)
            | inr other ↦
                let not_same = eqb-false s.client t.client other in
                rw (not_below, other) (rising_and t.client s l (omega arith) h)
          ]
    ]

rises_above : (low : ℕ) (l : List Session) → are_sessions_above low l ≡ true → do_rise l ≡ true
rises_above low [] h = refl
rises_above low (s ∷ l) h = (and_parts (nat_lt low s.client) (are_sessions_above s.client l) h).1

-- each of rising sessions is its client's
pub each_is_its_clients : (l : List Session) (s : Session) → do_rise l ≡ true → Contains l s
    → session_of s.client l ≡ Some s
each_is_its_clients [] s h (k, lt, is) = absurd (omega arith)
each_is_its_clients (t ∷ l) s h (zero, lt, is) = rw is at_head
  where
    at_head : cond (eqb s.client s.client) (Some s) (session_of s.client l) ≡ Some s
    at_head = rw (eq-eqb s.client s.client refl) refl
each_is_its_clients (t ∷ l) s h (suc k, lt, is) =
    let here : k < length l = omega arith in
    let lower : t.client < s.client = subst (λ (x : Session). t.client < x.client) is (above t.client l h k s here) in
    let other : eqb t.client s.client ≡ false = ne_eqb t.client s.client (λ e. omega arith) in
    rw other (each_is_its_clients l s (rises_above t.client l h) (k, here, is))

-- so each session that may be kept is
pub kept_is_its_clients : (l : List Session) (s : Session) → AreSessions l → Contains l s
    → session_of s.client l ≡ Some s
kept_is_its_clients l s are c = each_is_its_clients l s (rises_above 0 l are.1) c
