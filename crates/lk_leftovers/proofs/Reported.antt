-- What promises report of a position, and above it.
use Rattle.std.proofs.Common.{◌≡◌, ◌∙◌, inl, inr, ℕ, ◌+◌, ◌≤◌, nat_le, nat_lt, Bool}
use Rattle.std.proofs.Common.{true, false, List, [], ◌∷◌, ◌++◌}
use Rattle.std.proofs.Common.{Contains, eqb, filter, flat_map, length, map, refl, ap, sym, subst, arith}
use Rattle.std.proofs.lemmas.Bool.{cases_Bool, eqb-true}
use Rattle.std.proofs.lemmas.Bool.Decides.{nat_tests}
use Rattle.std.proofs.lemmas.List.Elements.{Contains-append_cases}
use Rattle.std.specs.List.{list_any}
use Rattle.lk_types.specs.declared.member.Member.{Member}
use Rattle.lk_types.specs.declared.vote.Vote.{Vote}
use Rattle.lk_agreement_laws.proofs.Histories.{cons_cases, contains_more, filter_from, filter_passes_at}
use Rattle.lk_leader.specs.Terms.{ReceivedPromise}
use Rattle.lk_leader.specs.Values.{has_vote_from, is_changing_at, promised_at, received_at}
use Rattle.lk_leader.specs.Values.{speaks_at}
use Rattle.lk_members.specs.Windows.{RosterValue}
use Rattle.lk_node.proofs.Nodes.{map_contains}

abbrev at_or_above : ℕ → Vote → Bool
at_or_above i x = nat_le i x.position

-- one that has a vote
any_vote : (i : ℕ) (votes : List Vote) (v : Vote) → Contains votes v → i ≤ v.position
    → list_any (at_or_above i) votes ≡ true
any_vote i [] v c le = absurd (omega (arith, c.1))
any_vote i (w ∷ votes) v c le = elim (cases_Bool (nat_le i w.position)) [
  | inl t ↦ rw t refl
  | inr f ↦ rw f (elim (cons_cases w votes v c) [
    | inl is ↦
        let t : nat_le i v.position ≡ true = grind (arith, nat_tests) in
        absurd (cc (sym f ∙ ap (λ (x : Vote). nat_le i x.position) is ∙ t))
    | inr later ↦ any_vote i votes v later le
  ])
]

pub has_vote : (i : ℕ) (qs : List ReceivedPromise) (q : ReceivedPromise) (v : Vote) → Contains qs q
    → Contains q.votes v → i ≤ v.position → has_vote_from qs i ≡ true
has_vote i [] q v c d le = absurd (omega (arith, c.1))
has_vote i (r ∷ qs) q v c d le = elim (cases_Bool (list_any (at_or_above i) r.votes)) [
  | inl t ↦ rw t refl
  | inr f ↦ rw f (elim (cons_cases r qs q c) [
    | inl is ↦ absurd (cc (sym f ∙ ap (λ (x : ReceivedPromise). list_any (at_or_above i) x.votes) is
        ∙ any_vote i q.votes v d le))
    | inr later ↦ has_vote i qs q v later d le
  ])
]

-- a vote at a position or above it is one above each smaller position
none_later : (i j : ℕ) (votes : List Vote) → i ≤ j → list_any (at_or_above j) votes ≡ true
    → list_any (at_or_above i) votes ≡ true
none_later i j [] le e = absurd (cc e)
none_later i j (w ∷ votes) le e = elim (cases_Bool (nat_le j w.position)) [
  | inl t ↦ let u : nat_le i w.position ≡ true = grind (arith, nat_tests) in rw u refl
  | inr f ↦
      let rest = none_later i j votes le (rw f at e) in
      elim (cases_Bool (nat_le i w.position)) [ inl t ↦ rw t refl | inr g ↦ rw g rest ]
]

pub has_earlier : (i j : ℕ) (qs : List ReceivedPromise) → i ≤ j → has_vote_from qs j ≡ true
    → has_vote_from qs i ≡ true
has_earlier i j [] le e = absurd (cc e)
has_earlier i j (q ∷ qs) le e = elim (cases_Bool (list_any (at_or_above j) q.votes)) [
  | inl t ↦ let u = none_later i j q.votes le t in rw u refl
  | inr f ↦
      let rest = has_earlier i j qs le (rw f at e) in
      elim (cases_Bool (list_any (at_or_above i) q.votes)) [ inl t ↦ rw t refl | inr g ↦ rw g rest ]
]

-- more promises report no less
pub has_more : (i : ℕ) (qs more : List ReceivedPromise) → has_vote_from qs i ≡ true
    → has_vote_from (qs ++ more) i ≡ true
has_more i [] more e = absurd (cc e)
has_more i (q ∷ qs) more e = elim (cases_Bool (list_any (at_or_above i) q.votes)) [
  | inl t ↦ rw t refl
  | inr f ↦ (let rest = has_more i qs more (rw f at e) in rw f rest)
]

-- a vote that is reported at a position is one of a promise, in whatever form it is listed
reported_by : {T : Type 0} (h : T) (i : ℕ) (q : ReceivedPromise) (made : ReceivedPromise → Vote → T)
    → Contains (map (made q) (filter (λ (x : Vote). eqb x.position i) q.votes)) h → (P : T → Type 0)
    → ((v : Vote) → Contains q.votes v → v.position ≡ i → P (made q v)) → P h
reported_by h i q made c P each =
    let got = map_contains (made q) (filter (λ (x : Vote). eqb x.position i) q.votes) h c in
    subst P got.2 (each got.0
    (filter_from (λ (x : Vote). eqb x.position i) q.votes got.0 got.1)
    (eqb-true got.0.position i (filter_passes_at (λ (x : Vote). eqb x.position i) q.votes got.0 got.1)))

pub reported_at : {T : Type 0} (h : T) (i : ℕ) (set : List Member) (qs : List ReceivedPromise)
    (made : ReceivedPromise → Vote → T)
    → Contains (flat_map (λ (r : ReceivedPromise). map (made r) (filter (λ (x : Vote). eqb x.position i) r.votes))
    (received_at set i qs)) h
    → (P : T → Type 0)
    → ((q : ReceivedPromise) (v : Vote) → Contains qs q → Contains q.votes v → v.position ≡ i → P (made q v)) → P h
reported_at h i set [] made c P each = absurd (omega (arith, c.1))
reported_at h i set (q ∷ qs) made c P each = elim (cases_Bool (speaks_at set i q)) [
  | inl t ↦ elim (Contains-append_cases (map (made q) (filter (λ (x : Vote). eqb x.position i) q.votes))
      (flat_map (λ (r : ReceivedPromise). map (made r) (filter (λ (x : Vote). eqb x.position i) r.votes))
      (received_at set i qs)) h (rw t at c)) [
        | inl here ↦ reported_by h i q made here P (λ v d at. each q v (0, omega arith, refl) d at)
        | inr later ↦ reported_at h i set qs made later P (λ r v d e at. each r v (contains_more q qs r d) e at)
      ]
  | inr f ↦ reported_at h i set qs made (rw f at c) P (λ r v d e at. each r v (contains_more q qs r d) e at)
]

none_of : {X : Type 0} (xs : List X) → ((x : X) → Contains xs x → ⊥) → xs ≡ []
none_of [] none = refl
none_of (x ∷ xs) none = absurd (none x (0, omega arith, refl))

-- where no vote is reported at the position or above it, none is reported of it
pub none_reported : (i : ℕ) (set : List Member) (qs : List ReceivedPromise) → has_vote_from qs i ≡ false
    → promised_at i (received_at set i qs) ≡ []
none_reported i set qs e = none_of (promised_at i (received_at set i qs))
    (λ h c. reported_at h i set qs (λ r x. record { node = r.node; vote = x }) c (λ t. ⊥)
    (λ q v d g at. absurd (cc (sym e ∙ has_vote i qs q v d g (omega (arith, at))))))

-- ---- changes

-- a change that is in effect at a position is in effect after it
pub later_unchanged : (roster : RosterValue) (i j : ℕ) → i ≤ j → is_changing_at roster i ≡ false
    → is_changing_at roster j ≡ false
later_unchanged roster i j le e =
    elim (cases_Bool (nat_lt 0 roster.changed)) [
      | inl t ↦ (let early : nat_le i (roster.changed + length roster.sets) ≡ false = rw t at e in
          let late : nat_le j (roster.changed + length roster.sets) ≡ false = grind (arith, nat_tests) in
          rw (t, late) refl)
      | inr f ↦ rw f refl
    ]
