-- What was chosen stays chosen, and a chosen list goes on.
use Rattle.std.proofs.Common.{◌≡◌, ℕ, zero, suc, ◌+◌, ◌-◌, ◌<◌, ◌≤◌, ◌⊎◌, List, [], ◌∷◌, ◌++◌, length, take, Some}
use Rattle.std.proofs.Common.{slice_get, refl, ap, sym, ◌∙◌, subst, subst₂, inl, inr, arith}
use Rattle.std.proofs.lemmas.List.{take-append-le, take-take, length-take}
use Rattle.std.proofs.lemmas.List.Elements.{Contains-append_left}
use Rattle.lk_members.specs.Rosters.{Member, Genesis, roster_of, members}
use Rattle.lk_agreement_laws.specs.Ballots.{BallotValue}
use Rattle.lk_agreement_laws.specs.Datagrams.{NodeMessage, Datagram, Accept, HasSent, WasSent}
use Rattle.lk_agreement_laws.specs.Chosen.{Command, command_at, IsAcceptedIn, Chosen, ChosenAt, AreChosenFrom}
use Rattle.lk_agreement_laws.specs.Soundness.{Justified, Sound}
use Rattle.lk_agreement_laws.specs.Nodes.{PaxosState, Stems}
use Rattle.lk_agreement_laws.proofs.Agree.{at_same_place, command_within}

module _ (genesis : Genesis) (sent new : List Datagram) where
  pub still_sent : (n : ℕ) (m : NodeMessage) → HasSent genesis sent n m → HasSent genesis (sent ++ new) n m
  still_sent n m h = record {
    datagram = h.datagram;
    listed = Contains-append_left sent new h.datagram h.listed;
    from = h.from;
    spelled = h.spelled;
  }

  pub still_was : (m : NodeMessage) → WasSent genesis sent m → WasSent genesis (sent ++ new) m
  still_was m h = record { sender = h.sender; has_sent = still_sent h.sender m h.has_sent }

  pub still_accepted : (set : List Member) (b : BallotValue) (i : ℕ) (v : Command)
      → IsAcceptedIn genesis sent set b i v → IsAcceptedIn genesis (sent ++ new) set b i v
  still_accepted set b i v a =
      record { nodes = a.nodes; majority = a.majority; accepted = λ n h. still_sent n _ (a.accepted n h) }

  pub still_chosen : (L : List Command) → Chosen genesis sent L → Chosen genesis (sent ++ new) L
  unfolding Chosen
  still_chosen L chosen i v at = let c = chosen i v at in (c.0, still_accepted _ _ _ _ c.1)

  pub still_chosen_at : (i : ℕ) (v : Command) → ChosenAt genesis sent i v → ChosenAt genesis (sent ++ new) i v
  still_chosen_at i v c = record {
    under = c.under;
    chosen = still_chosen c.under c.chosen;
    reaches = c.reaches;
    ballot = c.ballot;
    accepted = still_accepted _ _ _ _ c.accepted;
  }

  pub still_chosen_from : (first : ℕ) (commands : List Command) → AreChosenFrom genesis sent first commands
      → AreChosenFrom genesis (sent ++ new) first commands
  still_chosen_from first commands c k v at = still_chosen_at (first + k) v (c k v at)

  pub still_justified : (b : BallotValue) (i : ℕ) (v : Command) → Justified genesis sent b i v
      → Justified genesis (sent ++ new) b i v
  still_justified b i v j = record {
    under = j.under;
    chosen = still_chosen j.under j.chosen;
    reaches = j.reaches;
    received = j.received;
    nodes = j.nodes;
    majority = j.majority;
    promisers = j.promisers;
    promised = λ r h. let p = j.promised r h in (p.0, still_sent _ _ p.1);
    highest = j.highest;
  }

  pub still_stems : (w : PaxosState) → Stems genesis sent w → Stems genesis (sent ++ new) w
  still_stems w f = record {
    votes = λ x c. let p = f.votes x c in (still_was (Accept x) p.0, p.1);
    done = still_chosen w.done f.done;
    snapshot = f.snapshot;
    pairs = λ i v c. still_chosen_at i v (f.pairs i v c);
  }

-- the members of a position are those that any longer list names
pub members_front : (genesis : Genesis) (L K : List Command) (i : ℕ) → i ≤ length L + genesis.alpha
    → members genesis (L ++ K) i ≡ members genesis L i
unfolding members
members_front genesis L K i h =
    ap (λ P. (roster_of genesis P).members) (take-append-le (i - genesis.alpha) L K (omega arith))

-- an entry of a list that is one longer stands in the list, or is the new one
push_cases : {X : Type 0} (L : List X) (x v : X) (k : ℕ) → slice_get (L ++ x ∷ []) k ≡ Some v
    → ((k < length L) × (slice_get L k ≡ Some v)) ⊎ ((k ≡ length L) × (x ≡ v))
push_cases [] x v zero h = inr (refl, cc)
push_cases [] x v (suc k) h = absurd cc
push_cases (y ∷ L) x v zero h = inl (omega arith, h)
push_cases (y ∷ L) x v (suc k) h =
    elim (push_cases L x v k h) [ inl l ↦ inl (omega (arith, l.0), l.1) | inr r ↦ inr (ap suc r.0, r.1) ]

pub at_cases : (L : List Command) (x v : Command) (i : ℕ) → command_at (L ++ x ∷ []) i ≡ Some v
    → (command_at L i ≡ Some v) ⊎ ((i ≡ suc (length L)) × (x ≡ v))
at_cases L x v zero h = absurd cc
at_cases L x v (suc k) h = elim (push_cases L x v k h) [ inl l ↦ inl l.1 | inr r ↦ inr (ap suc r.0, r.1) ]

-- a command that is chosen at the next position goes on the list
pub chosen_push : (genesis : Genesis) (sent : List Datagram) → Sound genesis sent → (L : List Command) (v : Command)
    → Chosen genesis sent L → ChosenAt genesis sent (suc (length L)) v → Chosen genesis sent (L ++ v ∷ [])
unfolding Chosen
chosen_push genesis sent sound L v chosen c i u at =
    elim (at_cases L v u i at) [
      | inl l ↦ (let a = chosen i u l in (
        a.0,
        subst (λ set. IsAcceptedIn genesis sent set a.0 i u)
            (sym (members_front genesis L (v ∷ []) i (omega (arith, command_within L i u l)))) a.1,
      ))
      | inr r ↦ (c.ballot, last r)
    ]
  where
    positive : 0 < genesis.alpha
    positive = omega (arith, genesis.in_range)

    last : (i ≡ suc (length L)) × (v ≡ u) → IsAcceptedIn genesis sent (members genesis (L ++ v ∷ []) i) c.ballot i u
    last r =
        let reaches : suc (length L) ≤ length L + genesis.alpha = omega (arith, positive) in
        let same = at_same_place genesis sent sound (suc (length L)) c.under L c.chosen chosen c.reaches reaches
        ∙ sym (members_front genesis L (v ∷ []) (suc (length L)) reaches) in
        let here = subst₂ (λ set w. IsAcceptedIn genesis sent set c.ballot (suc (length L)) w) same r.1 c.accepted in
        subst (λ j. IsAcceptedIn genesis sent (members genesis (L ++ v ∷ []) j) c.ballot j u) (sym r.0) here

-- ---- a beginning of a chosen list is chosen

got_before : (L : List Command) (k j : ℕ) (v : Command) → slice_get (take k L) j ≡ Some v → slice_get L j ≡ Some v
got_before L zero j v at = absurd cc
got_before [] (suc k) j v at = at
got_before (x ∷ L) (suc k) zero v at = at
got_before (x ∷ L) (suc k) (suc j) v at = got_before L k j v at

command_before : (L : List Command) (k i : ℕ) (v : Command) → command_at (take k L) i ≡ Some v → command_at L i ≡ Some v
command_before L k zero v at = absurd cc
command_before L k (suc i) v at = got_before L k i v at

members_before : (genesis : Genesis) (L : List Command) (k i : ℕ) → i ≤ k
    → members genesis L i ≡ members genesis (take k L) i
unfolding members
members_before genesis L k i within =
    ap (λ (P : List Command). (roster_of genesis P).members)
    (sym (take-take (i - genesis.alpha) k L (omega (arith, within))))

pub chosen_take : (genesis : Genesis) (sent : List Datagram) (L : List Command) (k : ℕ) → Chosen genesis sent L
    → Chosen genesis sent (take k L)
unfolding Chosen
chosen_take genesis sent L k chosen i v at =
    let c = chosen i v (command_before L k i v at) in
    let within : i ≤ k = omega (arith, command_within (take k L) i v at, length-take k L) in
    (c.0, subst (λ set. IsAcceptedIn genesis sent set c.0 i v) (members_before genesis L k i within) c.1)
