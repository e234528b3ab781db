-- One ballot after another, until nobody rejects it: at most as many as there are others.
use Rattle.std.proofs.Common.{◌≡◌, ◌∙◌, inl, inr, ℕ, suc, ◌+◌, ◌≤◌, List, [], ◌∷◌, length, Contains, add-one, refl, ap}
use Rattle.std.proofs.Common.{sym, subst, arith}
use Rattle.lk_agreement_laws.proofs.Histories.{cons_cases}
use Rattle.lk_state.specs.Meanings.{Meaning}
use Rattle.lk_replica.specs.ReplicaValue.{ReplicaValue}
use Rattle.lk_sim.specs.WorldStates.{WorldState}
use Rattle.lk_world_progress.specs.Delivering.{AreDistinct}
use Rattle.lk_world_leftovers.proofs.Retrying.{few_distinct}
use Rattle.lk_world_leftovers.specs.Persisting.{IsNoRival}
use Rattle.lk_healing.proofs.Asks.{asks_both, asks_same}
use Rattle.lk_healing.specs.Contending.{AsksNothing, MayStand}
use Rattle.lk_healing.specs.Standing.{IsRejectedBy, LeadsAfter}
use Rattle.lk_healing.specs.declared.asking.Asking.{Asking}

module _ (m : Meaning) (IsText : List ℕ → Type 0) (x : ℕ) (nodes : List ℕ) where
  same_others : (others these : List ℕ) → nodes ≡ x ∷ others → nodes ≡ x ∷ these → others ≡ these
  same_others others these one two = let is : x ∷ others ≡ x ∷ these = sym one ∙ two in cc is

  -- so many rivals have rejected it, all different, and none of them is a rival any more
  pub record HasStood (old : WorldState ReplicaValue) (i : ℕ) (now : WorldState ReplicaValue) : Type 0 where
    pub stands : MayStand m IsText now x nodes
    pub rivals : List ℕ
    pub count : length rivals ≡ i
    pub distinct : AreDistinct rivals
    pub among : (n : ℕ) → Contains rivals n → Contains stands.others n
    pub settled : (n : ℕ) → Contains rivals n → IsNoRival now x n
    pub asks : AsksNothing old now

  pub begins_standing : (old : WorldState ReplicaValue) → MayStand m IsText old x nodes → HasStood old 0 old
  begins_standing old k = record {
    stands = k;
    rivals = [];
    count = refl;
    distinct = tt;
    among = λ n c. absurd (omega (arith, c.1));
    settled = λ n c. absurd (omega (arith, c.1));
    asks = asks_same old;
  }

  module _ (old mid new : WorldState ReplicaValue) (i : ℕ) (h : HasStood old i mid)
      (r : IsRejectedBy m IsText x nodes mid new) where
    here : (n : ℕ) → Contains h.rivals n → Contains r.stands.others n
    here n c = subst (λ (ns : List ℕ). Contains ns n)
        (same_others h.stands.others r.stands.others h.stands.are r.stands.are) (h.among n c)

    pub stood_once : HasStood old (i + 1) new
    stood_once = record {
      stands = r.stands;
      rivals = r.rival ∷ h.rivals;
      count = ap suc h.count ∙ sym (add-one i);
      distinct = (λ c. r.was (h.settled r.rival c), h.distinct);
      among = λ n c. elim (cons_cases r.rival h.rivals n c) [
        | inl is ↦ subst (λ (j : ℕ). Contains r.stands.others j) is r.among
        | inr before ↦ here n before
      ];
      settled = λ n c. elim (cons_cases r.rival h.rivals n c) [
        | inl is ↦ subst (λ (j : ℕ). IsNoRival new x j) is r.settled
        | inr before ↦ r.stays n (here n before) (h.settled n before)
      ];
      asks = asks_both old mid new h.asks r.asks;
    }

  pub not_for_ever : (old now : WorldState ReplicaValue) (i : ℕ) → HasStood old i now → length nodes ≤ i → ⊥
  not_for_ever old now i h enough =
      let few = few_distinct h.rivals h.stands.others h.distinct h.among in
      let more : length nodes ≡ suc (length h.stands.others) = ap length h.stands.are in
      omega (arith, few, more, h.count, enough)

  pub leads_from : (old mid new : WorldState ReplicaValue) (i : ℕ) (asking : Asking) → HasStood old i mid
      → LeadsAfter m IsText x nodes mid new asking → LeadsAfter m IsText x nodes old new asking
  leads_from old mid new i asking h l = record { fills = l.fills; asks = asks_both old mid new h.asks l.asks }
