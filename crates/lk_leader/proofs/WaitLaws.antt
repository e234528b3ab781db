-- What waits, seen as the entries of a map from clients to what they ask for.
use Rattle.std.proofs.Common.{◌≡◌, ◌∙◌, ℕ, ◌≤◌, ◌<◌, Bool, true, false, cond, eqb, nat_le, nat_lt, Some, None, List, []}
use Rattle.std.proofs.Common.{◌∷◌, map, refl, ap, sym, arith, eqb-true, inl, inr}
use Rattle.std.proofs.lemmas.Bool.{cases_Bool, ltb-true, lt-ltb, leb-true, le-leb}
use Rattle.std.specs.Map.{lookup, remove_entry}
use Rattle.indexmap.specs.IndexMap.{insert_entry}
use Rattle.lk_leader.specs.Waits.{RequestValue, newer, asked, waiting_of, number_up_to, left_by}
use Rattle.lk_leader.specs.declared.waiting.Asked.{Asked}

-- the request of an entry
abbrev pub request_of : (ℕ × Asked) → RequestValue
request_of e = record { client = e.0; number = e.1.number; op = e.1.op }

abbrev pub requests_of : List (ℕ × Asked) → List RequestValue
requests_of es = map request_of es

newer-later : (r q : RequestValue) → q.number < r.number → newer r q ≡ r
newer-later r q lt = rw (lt-ltb q.number r.number lt)

newer-same : (r q : RequestValue) → r.number ≤ q.number → newer r q ≡ q
newer-same r q le = by (nat_lt q.number r.number) refl
  where
    by : (b : Bool) → nat_lt q.number r.number ≡ b → cond b r q ≡ q
    by true e = absurd (omega (arith, ltb-true q.number r.number e))
    by false e = refl

-- an entry that is newer than its client's takes its place, or goes last
pub asked-inserted : (es : List (ℕ × Asked)) (k : ℕ) (v : Asked)
    → ((w : Asked) → lookup (eqb k) es ≡ Some w → w.number < v.number)
    → requests_of (insert_entry eqb es k v) ≡ asked (request_of (k, v)) (requests_of es)
asked-inserted [] k v older = refl
asked-inserted (e ∷ es) k v older =
    elim (cases_Bool (eqb k e.0)) [
      | inl t ↦ (let same : k ≡ e.0 = eqb-true k e.0 t in
          let found : lookup (eqb k) (e ∷ es) ≡ Some e.1 = rw t in
          rw t (ap (λ r. r ∷ requests_of es)
          (ap (λ (c : ℕ). request_of (c, v)) (sym same)
          ∙ sym (newer-later (request_of (k, v)) (request_of e) (older e.1 found)))))
      | inr f ↦ rw f (ap (λ rs. request_of e ∷ rs) (asked-inserted es k v (λ w at. older w (rw f at))))
    ]

-- one that is not stays away
pub asked-dropped : (es : List (ℕ × Asked)) (k : ℕ) (v w : Asked) → lookup (eqb k) es ≡ Some w → v.number ≤ w.number
    → requests_of es ≡ asked (request_of (k, v)) (requests_of es)
asked-dropped [] k v w at le = absurd (cc at)
asked-dropped (e ∷ es) k v w at le =
    elim (cases_Bool (eqb k e.0)) [
      | inl t ↦ (let found : e.1 ≡ w = (let there = rw t at at in cc there) in
          rw t (ap (λ r. r ∷ requests_of es) (sym (newer-same (request_of (k, v)) (request_of e) (rw found le)))))
      | inr f ↦ rw f (ap (λ rs. request_of e ∷ rs) (asked-dropped es k v w (rw f at at) le))
    ]

-- the client's request, by its entry
waiting-some : (es : List (ℕ × Asked)) (k : ℕ) (w : Asked) → lookup (eqb k) es ≡ Some w
    → (c : ℕ) × (waiting_of k (requests_of es) ≡ Some (request_of (c, w)))
waiting-some [] k w at = absurd (cc at)
waiting-some (e ∷ es) k w at =
    elim (cases_Bool (eqb k e.0)) [
      | inl t ↦ (let found : e.1 ≡ w = (let there = rw t at at in cc there) in
          (e.0, rw t (ap (λ (a : Asked). Some (request_of (e.0, a))) found)))
      | inr f ↦ (let rest = waiting-some es k w (rw f at at) in (rest.0, rw f rest.1))
    ]

number-up_to : (n m : ℕ) → m ≤ n → cond (nat_le m n) (Some m) None ≡ Some m
number-up_to n m le = rw (le-leb m n le) refl

number-above : (n m : ℕ) → n < m → cond (nat_le m n) (Some m) None ≡ None
number-above n m above = by (nat_le m n) refl
  where
    by : (b : Bool) → nat_le m n ≡ b → cond b (Some m) None ≡ None
    by true e = absurd (omega (arith, leb-true m n e))
    by false e = refl

-- so is its number told, where it is at most this one, and else none
pub told-up_to : (es : List (ℕ × Asked)) (k n : ℕ) (w : Asked) → lookup (eqb k) es ≡ Some w → w.number ≤ n
    → number_up_to n (waiting_of k (requests_of es)) ≡ Some w.number
told-up_to es k n w at le = ap (number_up_to n) (waiting-some es k w at).1 ∙ number-up_to n w.number le

pub told-above : (es : List (ℕ × Asked)) (k n : ℕ) (w : Asked) → lookup (eqb k) es ≡ Some w → n < w.number
    → number_up_to n (waiting_of k (requests_of es)) ≡ None
told-above es k n w at above = ap (number_up_to n) (waiting-some es k w at).1 ∙ number-above n w.number above

pub waiting-none : (es : List (ℕ × Asked)) (k : ℕ) → lookup (eqb k) es ≡ None → waiting_of k (requests_of es) ≡ None
waiting-none [] k at = refl
waiting-none (e ∷ es) k at =
    elim (cases_Bool (eqb k e.0)) [
      | inl t ↦ (let there = rw t at at in absurd (cc there))
      | inr f ↦ rw f (waiting-none es k (rw f at at))
    ]

-- where the client has no request up to the number, all are left
pub left-all : (es : List (ℕ × Asked)) (k n : ℕ) → ((w : Asked) → lookup (eqb k) es ≡ Some w → n < w.number)
    → requests_of es ≡ left_by k n (requests_of es)
left-all [] k n later = refl
left-all (e ∷ es) k n later =
    elim (cases_Bool (eqb k e.0)) [
      | inl t ↦ (let above : n < e.1.number = later e.1 (rw t) in rw t (stays (nat_le e.1.number n) refl above))
      | inr f ↦ rw f (ap (λ rs. request_of e ∷ rs) (left-all es k n (λ w at. later w (rw f at))))
    ]
  where
    stays : (b : Bool) → nat_le e.1.number n ≡ b → n < e.1.number
        → request_of e ∷ requests_of es ≡ cond b (requests_of es) (request_of e ∷ requests_of es)
    stays true is above = absurd (omega (arith, leb-true e.1.number n is))
    stays false is above = refl

-- else its entry goes
pub left-others : (es : List (ℕ × Asked)) (k n : ℕ) (w : Asked) → lookup (eqb k) es ≡ Some w → w.number ≤ n
    → requests_of (remove_entry (eqb k) es) ≡ left_by k n (requests_of es)
left-others [] k n w at le = refl
left-others (e ∷ es) k n w at le =
    elim (cases_Bool (eqb k e.0)) [
      | inl t ↦ (let found : e.1 ≡ w = (let there = rw t at at in cc there) in
          let small : nat_le e.1.number n ≡ true = le-leb e.1.number n (rw found le) in rw t (rw small refl))
      | inr f ↦ rw f (ap (λ rs. request_of e ∷ rs) (left-others es k n w (rw f at at) le))
    ]
