-- The nodes of a majority execute as much as the one of them that has executed most.
use Rattle.std.proofs.Common.{◌≡◌, ◌∙◌, ◌⊎◌, inl, inr, ℕ, zero, suc, ◌<◌, ◌≤◌, eqb, List, ◌∷◌, length}
use Rattle.std.proofs.Common.{Some, Contains, slice_get, refl, ap, sym, subst, arith}
use Rattle.std.proofs.lemmas.Bool.{cases_Bool, eqb-false, eqb-true}
use Rattle.std.proofs.lemmas.Option.{slice_get-get_or}
use Rattle.lk_types.specs.declared.genesis.Genesis.{Genesis}
use Rattle.lk_agreement_laws.proofs.Histories.{cons_cases, contains_more}
use Rattle.lk_state.specs.Meanings.{Meaning}
use Rattle.lk_learner.specs.Learners.{executed}
use Rattle.lk_replica.specs.ReplicaValue.{ReplicaValue}
use Rattle.lk_sim.specs.WorldStates.{WorldState}
use Rattle.lk_sim_nodes.specs.declared.sim_node.RunState.TheVariants.{Up}
use Rattle.lk_world_progress.proofs.Stepping.{one_replica}
use Rattle.lk_world_progress.specs.Delivering.{AreDistinct}
use Rattle.lk_world_progress.specs.Stepping.{Holds, IsUpAs}
use Rattle.lk_healing.proofs.Feeds.{nobody_changes}
use Rattle.lk_healing.proofs.Gains.{gains_same}
use Rattle.lk_healing.proofs.Places.{contains_at}
use Rattle.lk_healing.specs.Feeds.{MayGain, RestsBut}
use Rattle.lk_healing.specs.Gaps.{MayClose}
use Rattle.lk_healing.specs.Levels.{AllMayGain, MayLevel, StillLevels}

-- ---- places in a list

pub same_some : {X : Type 0} (x y : X) → Some x ≡ Some y → x ≡ y
same_some x y e = cc e

-- a later element of a list is one of the others
pub later_one : (x : ℕ) (others nodes : List ℕ) (i n : ℕ) → nodes ≡ x ∷ others → 1 ≤ i → slice_get nodes i ≡ Some n
    → Contains others n
later_one x others nodes i n are some at = by_place i some
    (ap (λ (l : List ℕ). slice_get l i) (sym are) ∙ at)
  where
    by_place : (j : ℕ) → 1 ≤ j → slice_get (x ∷ others) j ≡ Some n → Contains others n
    by_place zero low is = absurd (omega (arith, low))
    by_place (suc j) low is = contains_at others j n is

-- and each of the others is such an element
pub one_later : (x : ℕ) (others nodes : List ℕ) (n : ℕ) → nodes ≡ x ∷ others → Contains others n
    → (i : ℕ) × (1 ≤ i) × (i < length nodes) × (slice_get nodes i ≡ Some n)
one_later x others nodes n are c = (
  suc c.0,
  omega arith,
  omega (arith, c.1, ap length are),
  ap (λ (l : List ℕ). slice_get l (suc c.0)) are ∙ (slice_get-get_or others c.0 n c.1 ∙ ap Some c.2),
)

module _ (m : Meaning) (IsText : List ℕ → Type 0) (x : ℕ) (nodes : List ℕ) (start : WorldState ReplicaValue)
    (k : MayLevel m IsText start x nodes) where
  in_nodes : (n : ℕ) → Contains (x ∷ k.others) n → Contains nodes n
  in_nodes n c = subst (λ (l : List ℕ). Contains l n) (sym k.are) c

  pub among_others : (n : ℕ) → Contains k.others n → Contains nodes n
  among_others n c = in_nodes n (contains_more x k.others n c)

  pub is_first : Contains nodes x
  is_first = in_nodes x (0, omega arith, refl)

  pub differs : (n : ℕ) → Contains k.others n → n ≡ x → ⊥
  differs n c is = (subst AreDistinct k.are k.distinct).0 (subst (λ (j : ℕ). Contains k.others j) is c)

  pub first_or_other : (n : ℕ) → Contains nodes n → (n ≡ x) ⊎ Contains k.others n
  first_or_other n c = elim (cons_cases x k.others n (subst (λ (l : List ℕ). Contains l n) k.are c)) [
    | inl is ↦ inl (sym is)
    | inr later ↦ inr later
  ]

  -- ---- each may gain still

  pub still_begins : StillLevels m IsText x nodes start start k
  still_begins = record {
    each = k.each;
    rises = λ n c r q up up_too. omega (
      arith,
      ap (λ (y : ReplicaValue). executed y.node.learner)
          (one_replica m IsText start (k.each n c).1.holds n r q up up_too),
    );
    asked = refl;
    genesis = refl;
  }

  module _ (now : WorldState ReplicaValue) (s : StillLevels m IsText x nodes start now k) where
    holds_now : Holds m IsText now
    holds_now = (s.each x is_first).1.holds

    abbrev pub levels_again : MayLevel m IsText now x nodes
    levels_again = record {
      others = k.others;
      are = k.are;
      distinct = k.distinct;
      changes = nobody_changes start now s.asked k.changes;
      last = k.last;
      each = s.each;
      top = k.top;
      among = k.among;
      near =
          let risen = s.rises k.top k.among (k.each k.top k.among).0 (s.each k.top k.among).0
          (k.each k.top k.among).1.up (s.each k.top k.among).1.up in
          let alpha : now.genesis.alpha ≡ start.genesis.alpha = ap (λ (g : Genesis). g.alpha) s.genesis in
          omega (arith, k.near, risen, alpha);
    }

    -- the first node and another one, in either order
    abbrev pub may_close_first : (n : ℕ) → Contains k.others n → MayClose m IsText now x n
    may_close_first n c = record {
      apart = λ is. differs n c (sym is);
      changes = nobody_changes start now s.asked k.changes;
      last = k.last;
      behind = (s.each x is_first).0;
      own = (s.each x is_first).1;
      ahead = (s.each n (among_others n c)).0;
      other = (s.each n (among_others n c)).1;
    }

    abbrev pub may_close_other : (n : ℕ) → Contains k.others n → MayClose m IsText now n x
    may_close_other n c = record {
      apart = differs n c;
      changes = nobody_changes start now s.asked k.changes;
      last = k.last;
      behind = (s.each n (among_others n c)).0;
      own = (s.each n (among_others n c)).1;
      ahead = (s.each x is_first).0;
      other = (s.each x is_first).1;
    }

    -- after two of them have closed their gap
    module _ (b a : ℕ) (new : WorldState ReplicaValue) (after other_after : ReplicaValue)
        (own : MayGain m IsText new k.last b after) (other : MayGain m IsText new k.last a other_after)
        (rests : RestsBut b a now new)
        (own_rises : (r : ReplicaValue) → IsUpAs now b r → executed r.node.learner ≤ executed after.node.learner)
        (other_rises : (r : ReplicaValue) → IsUpAs now a r
        → executed r.node.learner ≤ executed other_after.node.learner) where
      each_now : AllMayGain m IsText new k.last nodes
      each_now n c = elim (cases_Bool (eqb n b)) [
        | inl t ↦ (after, subst (λ (j : ℕ). MayGain m IsText new k.last j after) (sym (eqb-true n b t)) own)
        | inr t ↦ elim (cases_Bool (eqb n a)) [
          | inl u ↦
              (other_after, subst (λ (j : ℕ). MayGain m IsText new k.last j other_after) (sym (eqb-true n a u)) other)
          | inr u ↦ (
            (s.each n c).0,
            gains_same m IsText now new k.last n (s.each n c).0 (s.each n c).1 own.holds
                (rests.rests n (Up (s.each n c).0) (eqb-false n b t) (eqb-false n a u) (s.each n c).1.up) rests.genesis,
          )
        ]
      ]

      rises_now : (n : ℕ) → Contains nodes n → (r q : ReplicaValue) → IsUpAs now n r → IsUpAs new n q
          → executed r.node.learner ≤ executed q.node.learner
      rises_now n c r q up up_too = elim (cases_Bool (eqb n b)) [
        | inl t ↦
            let is : n ≡ b = eqb-true n b t in
            let low = own_rises r (subst (λ (j : ℕ). IsUpAs now j r) is up) in
            let same : executed after.node.learner ≡ executed q.node.learner =
            ap (λ (y : ReplicaValue). executed y.node.learner) (one_replica m IsText new own.holds b after q own.up
            (subst (λ (j : ℕ). IsUpAs new j q) is up_too)) in
            omega (arith, low, same)
        | inr t ↦ elim (cases_Bool (eqb n a)) [
          | inl u ↦
              let is : n ≡ a = eqb-true n a u in
              let low = other_rises r (subst (λ (j : ℕ). IsUpAs now j r) is up) in
              let same : executed other_after.node.learner ≡ executed q.node.learner =
              ap (λ (y : ReplicaValue). executed y.node.learner) (one_replica m IsText new own.holds a other_after q
              other.up (subst (λ (j : ℕ). IsUpAs new j q) is up_too)) in
              omega (arith, low, same)
          | inr u ↦
              let same : executed r.node.learner ≡ executed q.node.learner =
              ap (λ (y : ReplicaValue). executed y.node.learner) (one_replica m IsText new own.holds n r q
              (rests.rests n (Up r) (eqb-false n b t) (eqb-false n a u) up) up_too) in
              omega (arith, same)
        ]
      ]

      pub still_now : StillLevels m IsText x nodes start new k
      still_now = record {
        each = each_now;
        rises = λ n c r q up up_too.
            let first = s.rises n c r (s.each n c).0 up (s.each n c).1.up in
            let second = rises_now n c (s.each n c).0 q (s.each n c).1.up up_too in
            omega (arith, first, second);
        asked = rests.asked ∙ s.asked;
        genesis = rests.genesis ∙ s.genesis;
      }

    -- and after more of the same
    pub still_both : (new : WorldState ReplicaValue) → StillLevels m IsText x nodes now new levels_again
        → StillLevels m IsText x nodes start new k
    still_both new t = record {
      each = t.each;
      rises = λ n c r q up up_too.
          let first = s.rises n c r (s.each n c).0 up (s.each n c).1.up in
          let second = t.rises n c (s.each n c).0 q (s.each n c).1.up up_too in
          omega (arith, first, second);
      asked = t.asked ∙ s.asked;
      genesis = t.genesis ∙ s.genesis;
    }
