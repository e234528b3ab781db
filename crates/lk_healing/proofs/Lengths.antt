-- A chosen list has at most as many commands as datagrams were sent: each was accepted in a datagram of its own.
use Rattle.std.proofs.Common.{◌≡◌, inl, inr, ℕ, zero, suc, ◌<◌, ◌≤◌, List, [], ◌∷◌, length, Some, Contains}
use Rattle.std.proofs.Common.{slice_get, refl, ap, sym, subst, arith}
use Rattle.std.proofs.lemmas.Bool.{cases_order}
use Rattle.lk_types.specs.declared.genesis.Genesis.{Genesis}
use Rattle.lk_types.specs.declared.vote.Vote.{Vote}
use Rattle.lk_messages.specs.Grammar.{Spells}
use Rattle.lk_agreement_laws.proofs.Histories.{chosen_was_accepted, cons_cases, contains_more, entry_chosen, said_alike}
use Rattle.lk_agreement_laws.specs.Chosen.{Chosen, Command}
use Rattle.lk_agreement_laws.specs.Datagrams.{Accepted, Datagram, HasSent, NodeMessage, said_by}
use Rattle.lk_sim_nodes.specs.SimNodes.{At}
use Rattle.lk_world_leftovers.proofs.Retrying.{few_distinct}
use Rattle.lk_world_progress.proofs.Stepping.{at_one}
use Rattle.lk_world_progress.specs.Delivering.{AreDistinct}

-- ---- numbers below another one

abbrev numbers_below : ℕ → List ℕ
numbers_below zero = []
numbers_below (suc n) = n ∷ numbers_below n

so_many : (n : ℕ) → length (numbers_below n) ≡ n
so_many zero = refl
so_many (suc n) = ap suc (so_many n)

is_among : (n k : ℕ) → k < n → Contains (numbers_below n) k
is_among zero k lt = absurd (omega (arith, lt))
is_among (suc n) k lt = elim (cases_order k n) [
  | inl same ↦ (0, omega arith, sym same)
  | inr (inl less) ↦ contains_more n (numbers_below n) k (is_among n k less)
  | inr (inr above) ↦ absurd (omega (arith, lt, above))
]

-- ---- where commands were accepted

stands_at : (L : List Command) (i : ℕ) → i < length L → (v : Command) × (slice_get L i ≡ Some v)
stands_at [] i lt = absurd (omega (arith, lt))
stands_at (v ∷ L) zero lt = (v, refl)
stands_at (v ∷ L) (suc i) lt = stands_at L i (omega (arith, lt))

same_vote : (u v : Vote) → Accepted u ≡ Accepted v → u ≡ v
same_vote u v e = cc e

module _ (genesis : Genesis) (sent : List Datagram) where
  -- some node's vote for the position, one above `i`, was sent at this place
  record IsAcceptedAt (i place : ℕ) : Type 0 where
    datagram : Datagram
    at : At sent place datagram
    node : ℕ
    vote : Vote
    position : vote.position ≡ suc i
    spelled : Spells (said_by genesis node (Accepted vote)) datagram.bytes

  one_position : (i j place : ℕ) → IsAcceptedAt i place → IsAcceptedAt j place → i ≡ j
  one_position i j place a b =
      let d : a.datagram ≡ b.datagram = at_one sent place a.datagram b.datagram a.at b.at in
      let same = said_alike genesis a.node b.node (Accepted a.vote) (Accepted b.vote) b.datagram.bytes
      (subst (λ (x : Datagram). Spells (said_by genesis a.node (Accepted a.vote)) x.bytes) d a.spelled) b.spelled in
      let p : a.vote.position ≡ b.vote.position =
      ap (λ (v : Vote). v.position) (same_vote a.vote b.vote same.1) in
      omega (arith, a.position, b.position, p)

  module _ (L : List Command) (chosen : Chosen genesis sent L) where
    accepted_at : (i : ℕ) → i < length L → (place : ℕ) × IsAcceptedAt i place
    accepted_at i lt =
        let v = stands_at L i lt in
        let a = chosen_was_accepted genesis sent (suc i) v.0 (entry_chosen genesis sent L chosen (suc i) v.0 v.1) in
        let one : HasSent genesis sent a.0
        (Accepted (record { position = suc i; ballot = a.1; command = v.0 })) = a.2 in (
          one.listed.0,
          record {
            datagram = one.datagram;
            at = (one.listed.1, one.listed.2);
            node = a.0;
            vote = record { position = suc i; ballot = a.1; command = v.0 };
            position = refl;
            spelled = one.spelled;
          },
        )

    -- different places, at each of which one of the first commands was accepted
    record ArePlaces (count : ℕ) : Type 0 where
      places : List ℕ
      many : length places ≡ count
      distinct : AreDistinct places
      each : (place : ℕ) → Contains places place → (i : ℕ) × (i < count) × IsAcceptedAt i place

    places_of : (count : ℕ) → count ≤ length L → ArePlaces count
    places_of zero le = record {
      places = [];
      many = refl;
      distinct = tt;
      each = λ place c. absurd (omega (arith, c.1));
    }
    places_of (suc n) le =
        let rest : ArePlaces n = places_of n (omega (arith, le)) in
        let last = accepted_at n (omega (arith, le)) in record {
          places = last.0 ∷ rest.places;
          many = ap suc rest.many;
          distinct = (
            λ c. (let o = rest.each last.0 c in
                let same = one_position o.0 n last.0 o.2 last.1 in omega (arith, o.1, same)),
            rest.distinct,
          );
          each = λ place c. elim (cons_cases last.0 rest.places place c) [
            | inl is ↦ (n, omega arith, subst (λ (p : ℕ). IsAcceptedAt n p) is last.1)
            | inr later ↦ (let o = rest.each place later in (o.0, omega (arith, o.1), o.2))
          ];
        }

    pub chosen_is_short : length L ≤ length sent
    chosen_is_short =
        let all : ArePlaces (length L) = places_of (length L) (omega arith) in
        let few = few_distinct all.places (numbers_below (length sent)) all.distinct
        (λ place c. is_among (length sent) place (all.each place c).2.at.0) in
        omega (arith, few, all.many, so_many (length sent))
