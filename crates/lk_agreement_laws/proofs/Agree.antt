-- Chosen lists agree.
use Rattle.std.proofs.Common.{◌≡◌, ℕ, zero, suc, ◌+◌, ◌-◌, ◌<◌, ◌≤◌, ◌⊎◌, List, [], ◌∷◌, ◌++◌, length, take, drop, Some}
use Rattle.std.proofs.Common.{Contains, refl, ap, ap₂, sym, ◌∙◌, subst, inl, inr, arith, take-append-drop, take_all}
use Rattle.std.proofs.lemmas.Bool.{cases_lt}
use Rattle.std.proofs.lemmas.Option.{slice_get_within}
use Rattle.lk_members.specs.Rosters.{Genesis, roster_of, members}
use Rattle.lk_members.specs.Majorities.{IsMajority}
use Rattle.lk_agreement_laws.specs.Ballots.{BallotValue, IsBelow, IsAtMost}
use Rattle.lk_agreement_laws.specs.Datagrams.{Vote, Datagram, Accept, Accepted, HasSent, WasSent}
use Rattle.lk_agreement_laws.specs.Chosen.{Command, command_at, IsAcceptedIn, Chosen, ChosenAt, IsPrefix}
use Rattle.lk_agreement_laws.specs.Soundness.{ReceivedPromise, Justified, Sound}
use Rattle.lk_members.proofs.Memberships.{majorities_meet}
use Rattle.lk_agreement_laws.proofs.Lists.{entry_at, take_next}
use Rattle.lk_agreement_laws.proofs.BallotOrder.{cases_ballot, at_most_trans, ballot_induction}

-- chosen lists agree on their first n commands
record AgreeTo (genesis : Genesis) (sent : List Datagram) (n : ℕ) : Type 0 where
  agree : (L K : List Command) → Chosen genesis sent L → Chosen genesis sent K → n ≤ length L
      → n ≤ length K → take n L ≡ take n K

pub command_within : (L : List Command) (i : ℕ) (v : Command) → command_at L i ≡ Some v → i ≤ length L
command_within L zero v h = absurd cc
command_within L (suc k) v h = omega (arith, slice_get_within L k v h)

abbrev pub vote : ℕ → BallotValue → Command → Vote
vote i b v = record { position = i; ballot = b; command = v }

module _ (genesis : Genesis) (sent : List Datagram) where
  same_members : (i : ℕ) → AgreeTo genesis sent (i - genesis.alpha) → (L K : List Command)
      → Chosen genesis sent L → Chosen genesis sent K
      → i ≤ length L + genesis.alpha → i ≤ length K + genesis.alpha → members genesis L i ≡ members genesis K i
  unfolding members
  same_members i a L K l k reach_l reach_k =
      ap (λ (P : List Command). (roster_of genesis P).members) (a.agree L K l k (omega arith) (omega arith))

  pub entry_chosen : (L : List Command) → Chosen genesis sent L → (i : ℕ) (v : Command) → command_at L i ≡ Some v
      → ChosenAt genesis sent i v
  unfolding Chosen
  entry_chosen L chosen i v at =
      let c = chosen i v at in
      record {
        under = L;
        chosen = chosen;
        reaches = omega (arith, command_within L i v at);
        ballot = c.0;
        accepted = c.1;
      }

  -- of what is accepted by a majority something was accepted
  pub accepted_once : (L : List Command) (i : ℕ) (b : BallotValue) (v : Command)
      → IsAcceptedIn genesis sent (members genesis L i) b i v
      → (n : ℕ) × HasSent genesis sent n (Accepted (vote i b v))
  accepted_once L i b v a =
      let n = majorities_meet (members genesis L i) a.nodes a.nodes a.majority a.majority in
      (n.0, a.accepted n.0 n.1)

module _ (genesis : Genesis) (sent : List Datagram) (sound : Sound genesis sent) where
  module _ (i : ℕ) (a : AgreeTo genesis sent (i - genesis.alpha)) (M : List Command) (chosen : Chosen genesis sent M)
      (reaches : i ≤ length M + genesis.alpha)
      (b : BallotValue) (v : Command) (acc : IsAcceptedIn genesis sent (members genesis M i) b i v) where
    -- from b on and below c only the command was proposed
    abbrev Earlier : BallotValue → Type 0
    Earlier c = (d : BallotValue) → IsBelow d c → (w : Command) → IsBelow b d
        → WasSent genesis sent (Accept (vote i d w)) → w ≡ v

    -- by a reported vote for the command, of a ballot from b on and below c
    by_match : (c : BallotValue) → Earlier c → (w : Command) → WasSent genesis sent (Accept (vote i b v)) → (y : Vote)
        → WasSent genesis sent (Accept y)
        → y.position ≡ i → y.command ≡ w → IsAtMost b y.ballot → IsBelow y.ballot c → w ≡ v
    by_match c earlier w mine y was at same from below =
        let is : y ≡ vote i y.ballot w = ap₂ (λ j u. vote j y.ballot u) at same in
        let now : WasSent genesis sent (Accept (vote i y.ballot w)) =
        subst (λ z. WasSent genesis sent (Accept z)) is was in
        elim from [
          | inl l ↦ earlier y.ballot below w l now
          | inr e ↦ sound.one_value b i w v (subst (λ d. WasSent genesis sent (Accept (vote i d w))) (sym e) now) mine
        ]

    -- by a node that voted in b and then promised c
    by_report : (c : BallotValue) → Earlier c → (w : Command) → IsBelow b c → (j : Justified genesis sent c i w)
        → (r : ReceivedPromise) → Contains j.received r
        → HasSent genesis sent r.node (Accepted (vote i b v)) → w ≡ v
    by_report c earlier w lt j r h voted =
        let p = j.promised r h in
        let x = sound.complete r.node (record { ballot = c; first = r.first; votes = r.votes })
        (vote i b v) p.1 voted lt p.0 in
        let y = j.highest x.0 (r, h, x.1) x.2 in
        let q = j.promised y.1.0 y.1.1 in
        let was = (sound.reported y.1.0.node
        (record { ballot = c; first = y.1.0.first; votes = y.1.0.votes }) q.1 y.0 y.1.2).0 in
        by_match c earlier w (sound.proposed r.node (vote i b v) voted) y.0 was y.2 y.3
        (at_most_trans b x.0.ballot y.0.ballot x.3 y.4) y.5

    by_majority : (c : BallotValue) → Earlier c → (w : Command) → IsBelow b c → (j : Justified genesis sent c i w)
        → IsMajority j.nodes (members genesis M i) → w ≡ v
    by_majority c earlier w lt j majority =
        let n = majorities_meet (members genesis M i) j.nodes acc.nodes majority acc.majority in
        let r = j.promisers n.0 n.1 in
        by_report c earlier w lt j r.0 r.1
        (subst (λ k. HasSent genesis sent k (Accepted (vote i b v))) (sym r.2) (acc.accepted n.0 n.2))

    by_justified : (c : BallotValue) → Earlier c → (w : Command) → IsBelow b c → Justified genesis sent c i w → w ≡ v
    by_justified c earlier w lt j =
        let same = same_members genesis sent i a j.under M j.chosen chosen j.reaches reaches in
        by_majority c earlier w lt j (subst (λ set. IsMajority j.nodes set) same j.majority)

    -- once a command is accepted by a majority, no later ballot proposes another
    later_value : (c : BallotValue) (w : Command) → IsBelow b c → WasSent genesis sent (Accept (vote i c w)) → w ≡ v
    later_value =
        ballot_induction (λ c. (w : Command) → IsBelow b c → WasSent genesis sent (Accept (vote i c w)) → w ≡ v)
        (λ c earlier w lt was. by_justified c earlier w lt (sound.justified (vote i c w) was))

  accepted_later : (i : ℕ) → AgreeTo genesis sent (i - genesis.alpha)
      → (v w : Command) (p : ChosenAt genesis sent i v) (q : ChosenAt genesis sent i w)
      → IsBelow p.ballot q.ballot → w ≡ v
  accepted_later i a v w p q lt =
      let n = accepted_once genesis sent q.under i q.ballot w q.accepted in
      later_value i a p.under p.chosen p.reaches p.ballot v p.accepted q.ballot w lt
      (sound.proposed n.0 (vote i q.ballot w) n.1)

  accepted_alike : (i : ℕ) (v w : Command) (p : ChosenAt genesis sent i v) (q : ChosenAt genesis sent i w)
      → p.ballot ≡ q.ballot → v ≡ w
  accepted_alike i v w p q e =
      let n = accepted_once genesis sent p.under i p.ballot v p.accepted in
      let m = accepted_once genesis sent q.under i q.ballot w q.accepted in
      let first = sound.proposed n.0 (vote i p.ballot v) n.1 in
      sound.one_value q.ballot i v w (subst (λ d. WasSent genesis sent (Accept (vote i d v))) e first)
      (sound.proposed m.0 (vote i q.ballot w) m.1)

  value_at : (i : ℕ) → AgreeTo genesis sent (i - genesis.alpha) → (v w : Command) → ChosenAt genesis sent i v
      → ChosenAt genesis sent i w → v ≡ w
  value_at i a v w p q =
      elim (cases_ballot p.ballot q.ballot) [
        | inl lt ↦ sym (accepted_later i a v w p q lt)
        | inr (inl e) ↦ accepted_alike i v w p q e
        | inr (inr gt) ↦ accepted_later i a w v q p gt
      ]

  agree_to : (bound n : ℕ) → n < bound → AgreeTo genesis sent n
  agree_to zero n h = absurd (omega arith)
  agree_to (suc bound) zero h = record { agree = λ L K chosen_l chosen_k in_l in_k. refl }
  agree_to (suc bound) (suc k) h = record {
    agree = λ L K chosen_l chosen_k in_l in_k.
        let front = (agree_to bound k (omega arith)).agree L K chosen_l chosen_k (omega arith) (omega arith) in
        let v = entry_at L k in_l in
        let w = entry_at K k in_k in
        let back = suc k - genesis.alpha in
        let positive : 0 < genesis.alpha = omega (arith, genesis.in_range) in
        let same : v.0 ≡ w.0 = value_at (suc k) (agree_to bound back (omega arith)) v.0 w.0
        (entry_chosen genesis sent L chosen_l (suc k) v.0 v.1) (entry_chosen genesis sent K chosen_k (suc k) w.0 w.1) in
        take_next L k v.0 v.1 ∙ ap₂ (λ l x. l ++ x ∷ []) front same ∙ sym (take_next K k w.0 w.1);
  }

  agree_up_to : (n : ℕ) → AgreeTo genesis sent n
  agree_up_to n = agree_to (suc n) n (omega arith)

  -- at most one command is chosen at a position
  pub one_chosen : (i : ℕ) (v w : Command) → ChosenAt genesis sent i v → ChosenAt genesis sent i w → v ≡ w
  one_chosen i v w p q = value_at i (agree_up_to (i - genesis.alpha)) v w p q

  begins : (L K : List Command) → Chosen genesis sent L → Chosen genesis sent K → length L ≤ length K → IsPrefix L K
  begins L K l k le =
      let same = (agree_up_to (length L)).agree L K l k (omega arith) le in (
        drop (length L) K,
        ap (λ xs. xs ++ drop (length L) K) (sym (take_all (length L) L (omega arith)) ∙ same)
            ∙ take-append-drop (length L) K,
      )

  -- of two chosen lists one is a beginning of the other
  pub chosen_agree : (L K : List Command) → Chosen genesis sent L → Chosen genesis sent K
      → IsPrefix L K ⊎ IsPrefix K L
  chosen_agree L K l k =
      elim (cases_lt (length L) (length K))
      [ inl lt ↦ inl (begins L K l k (omega arith)) | inr ge ↦ inr (begins K L k l ge) ]

  -- chosen lists name the same members
  pub at_same_place : (i : ℕ) (L K : List Command) → Chosen genesis sent L → Chosen genesis sent K
      → i ≤ length L + genesis.alpha → i ≤ length K + genesis.alpha → members genesis L i ≡ members genesis K i
  at_same_place i = same_members genesis sent i (agree_up_to (i - genesis.alpha))

  -- once a command is accepted by a majority of the members that a chosen list names, no later ballot proposes another
  pub later_value_in : (i : ℕ) (M : List Command) → Chosen genesis sent M → i ≤ length M + genesis.alpha
      → (b : BallotValue) (v : Command) → IsAcceptedIn genesis sent (members genesis M i) b i v
      → (c : BallotValue) (w : Command) → IsBelow b c → WasSent genesis sent (Accept (vote i c w)) → w ≡ v
  later_value_in i = later_value i (agree_up_to (i - genesis.alpha))
