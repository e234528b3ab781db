-- The first of some nodes is fed by each of the others, and feeds each of them, until all have executed as much.
use Rattle.std.proofs.Common.{◌≡◌, ◌∙◌, inl, inr, ℕ, ◌+◌, ◌<◌, ◌≤◌, eqb, List, length, Some, Contains}
use Rattle.std.proofs.Common.{slice_get, refl, ap, sym, subst, arith}
use Rattle.std.proofs.lemmas.Bool.{cases_Bool, cases_lt, eqb-false, eqb-true}
use Rattle.lk_types.specs.declared.genesis.Genesis.{Genesis}
use Rattle.lk_state.specs.Meanings.{Meaning}
use Rattle.lk_learner.specs.Learners.{executed}
use Rattle.lk_replica.specs.ReplicaValue.{ReplicaValue}
use Rattle.lk_sim.specs.WorldStates.{WorldState}
use Rattle.lk_sim_nodes.specs.declared.sim_node.RunState.TheVariants.{Up}
use Rattle.lk_world_progress.proofs.Stepping.{one_replica}
use Rattle.lk_world_progress.specs.Stepping.{Holds, IsUpAs}
use Rattle.lk_healing.proofs.Levels.{among_others, differs, first_or_other, is_first, later_one, levels_again}
use Rattle.lk_healing.proofs.Levels.{may_close_first, may_close_other, one_later, same_some, still_begins, still_both}
use Rattle.lk_healing.proofs.Levels.{still_now}
use Rattle.lk_healing.specs.Feeds.{MayGain}
use Rattle.lk_healing.specs.Gaps.{HasClosed}
use Rattle.lk_healing.specs.Levels.{AreEqual, HasFed, HasRisen, MayLevel, StillLevels}

-- two replicas of one node have executed the same
as_one : (m : Meaning) (IsText : List ℕ → Type 0) (w : WorldState ReplicaValue) → Holds m IsText w → (n : ℕ)
    (r q : ReplicaValue) → IsUpAs w n r → IsUpAs w n q → executed r.node.learner ≡ executed q.node.learner
as_one m IsText w holds n r q up up_too =
    ap (λ (y : ReplicaValue). executed y.node.learner) (one_replica m IsText w holds n r q up up_too)

module _ (m : Meaning) (IsText : List ℕ → Type 0) (x : ℕ) (nodes : List ℕ) (start : WorldState ReplicaValue)
    (k : MayLevel m IsText start x nodes) where
  -- ---- the first one rises

  -- it has executed as much as those before this place, and the others as much as at the start
  pub record IsRising (i reached : ℕ) (now : WorldState ReplicaValue) : Type 0 where
    pub still : StillLevels m IsText x nodes start now k
    pub rest : (n : ℕ) → Contains k.others n → (r q : ReplicaValue) → IsUpAs start n r → IsUpAs now n q
        → executed q.node.learner ≡ executed r.node.learner
    pub above : (j n : ℕ) → 1 ≤ j → j < i → slice_get nodes j ≡ Some n → (r c : ReplicaValue) → IsUpAs now n r
        → IsUpAs now x c → executed r.node.learner ≤ executed c.node.learner
    pub reach : 1 < i → (c : ReplicaValue) → IsUpAs now x c → executed c.node.learner ≡ reached

  pub begins_rising : (reached : ℕ) → IsRising 1 reached start
  begins_rising reached = record {
    still = still_begins m IsText x nodes start k;
    rest = λ n c r q up up_too. as_one m IsText start (k.each n (among_others m IsText x nodes start k n c)).1.holds n q
        r up_too up;
    above = λ j n low high at r c up up_too. absurd (omega (arith, low, high));
    reach = λ high c up. absurd (omega (arith, high));
  }

  module _ (i reached : ℕ) (now : WorldState ReplicaValue) (s : IsRising i reached now) (n : ℕ) (low : 1 ≤ i)
      (at : slice_get nodes i ≡ Some n) where
    pub there : Contains k.others n
    there = later_one x k.others nodes i n k.are low at

    module _ (new : WorldState ReplicaValue) (next : ℕ) (h : HasClosed m IsText x n now new next
        (may_close_first m IsText x nodes start k now s.still n there)) where
      others_same : (j : ℕ) → Contains k.others j → (p q : ReplicaValue) → IsUpAs now j p → IsUpAs new j q
          → executed q.node.learner ≡ executed p.node.learner
      others_same j c p q up up_too = elim (cases_Bool (eqb j n)) [
        | inl t ↦
            let is : j ≡ n = eqb-true j n t in
            as_one m IsText new h.own.holds n q h.other_after (subst (λ (y : ℕ). IsUpAs new y q) is up_too) h.other.up
            ∙ h.same
            ∙ as_one m IsText now (s.still.each n (among_others m IsText x nodes start k n there)).1.holds n
            (s.still.each n (among_others m IsText x nodes start k n there)).0 p
            (s.still.each n (among_others m IsText x nodes start k n there)).1.up
            (subst (λ (y : ℕ). IsUpAs now y p) is up)
        | inr t ↦ as_one m IsText new h.own.holds j q p up_too
            (h.rests.rests j (Up p) (differs m IsText x nodes start k j c) (eqb-false j n t) up)
      ]

      own_rises : (r : ReplicaValue) → IsUpAs now x r → executed r.node.learner ≤ executed h.after.node.learner
      own_rises r up =
          let own = s.still.each x (is_first m IsText x nodes start k) in
          omega (arith, as_one m IsText now own.1.holds x r own.0 up own.1.up, h.grows, h.reach)

      other_rises : (r : ReplicaValue) → IsUpAs now n r
          → executed r.node.learner ≤ executed h.other_after.node.learner
      other_rises r up =
          let other = s.still.each n (among_others m IsText x nodes start k n there) in
          omega (arith, as_one m IsText now other.1.holds n r other.0 up other.1.up, h.same)

      pub rises_on : IsRising (i + 1) next new
      rises_on = record {
        still = still_now m IsText x nodes start k now s.still x n new h.after h.other_after h.own h.other h.rests
            own_rises other_rises;
        rest = λ j c r q up up_too.
            let other = s.still.each j (among_others m IsText x nodes start k j c) in
            others_same j c other.0 q other.1.up up_too ∙ s.rest j c r other.0 up other.1.up;
        above = λ j y some high here r c up up_too.
            let own = s.still.each x (is_first m IsText x nodes start k) in
            let mine : executed c.node.learner ≡ executed h.after.node.learner =
            as_one m IsText new h.own.holds x c h.after up_too h.own.up in
            elim (cases_lt j i) [
              | inl before ↦
                  let c_other : Contains k.others y = later_one x k.others nodes j y k.are some here in
                  let other = s.still.each y (among_others m IsText x nodes start k y c_other) in
                  let same = others_same y c_other other.0 r other.1.up up in
                  let earlier = s.above j y some before here other.0 own.0 other.1.up own.1.up in
                  let risen = own_rises own.0 own.1.up in
                  omega (arith, same, earlier, risen, mine)
              | inr last ↦
                  let is : j ≡ i = omega (arith, last, high) in
                  let same : y ≡ n = same_some y n (sym here ∙ ap (λ (p : ℕ). slice_get nodes p) is ∙ at) in
                  let theirs : executed r.node.learner ≡ executed h.other_after.node.learner =
                  as_one m IsText new h.own.holds n r h.other_after (subst (λ (p : ℕ). IsUpAs new p r) same up)
                  h.other.up in
                  omega (arith, theirs, h.same, h.closes, h.reach, mine)
            ];
        reach = λ more c up. as_one m IsText new h.own.holds x c h.after up h.own.up ∙ h.reach;
      }

  pub has_risen : (i reached : ℕ) (now : WorldState ReplicaValue) → IsRising i reached now → length nodes ≤ i
      → HasRisen m IsText x nodes start now reached k
  has_risen i reached now s enough = record {
    still = s.still;
    above = λ n c r y up up_too. elim (first_or_other m IsText x nodes start k n c) [
      | inl is ↦
          let same = as_one m IsText now (s.still.each n c).1.holds n r y up
          (subst (λ (j : ℕ). IsUpAs now j y) (sym is) up_too) in
          omega (arith, same)
      | inr later ↦
          let j = one_later x k.others nodes n k.are later in
          s.above j.0 n j.1 (omega (arith, j.2, enough)) j.3 r y up up_too
    ];
    reach = λ n c y up.
        let j = one_later x k.others nodes n k.are c in
        s.reach (omega (arith, j.1, j.2, enough)) y up;
    rest = s.rest;
  }

  -- ---- the others are fed

  -- those before this place have executed as much as the first one, and this as much as at the start
  pub record IsRaising (i : ℕ) (now : WorldState ReplicaValue) : Type 0 where
    pub still : StillLevels m IsText x nodes start now k
    pub rest : (r q : ReplicaValue) → IsUpAs start x r → IsUpAs now x q
        → executed q.node.learner ≡ executed r.node.learner
    pub fed : (j n : ℕ) → 1 ≤ j → j < i → slice_get nodes j ≡ Some n → (r c : ReplicaValue) → IsUpAs now n r
        → IsUpAs now x c → executed c.node.learner ≤ executed r.node.learner

  pub begins_raising : IsRaising 1 start
  begins_raising = record {
    still = still_begins m IsText x nodes start k;
    rest = λ r q up up_too. as_one m IsText start (k.each x (is_first m IsText x nodes start k)).1.holds x q
        r up_too up;
    fed = λ j n low high at r c up up_too. absurd (omega (arith, low, high));
  }

  module _ (i : ℕ) (now : WorldState ReplicaValue) (s : IsRaising i now) (n : ℕ) (low : 1 ≤ i)
      (at : slice_get nodes i ≡ Some n) where
    pub there_too : Contains k.others n
    there_too = later_one x k.others nodes i n k.are low at

    module _ (new : WorldState ReplicaValue) (next : ℕ) (h : HasClosed m IsText n x now new next
        (may_close_other m IsText x nodes start k now s.still n there_too)) where
      first_same : (p q : ReplicaValue) → IsUpAs now x p → IsUpAs new x q
          → executed q.node.learner ≡ executed p.node.learner
      first_same p q up up_too =
          let own = s.still.each x (is_first m IsText x nodes start k) in
          as_one m IsText new h.own.holds x q h.other_after up_too h.other.up ∙ h.same
          ∙ as_one m IsText now own.1.holds x own.0 p own.1.up up

      grown : (r : ReplicaValue) → IsUpAs now n r → executed r.node.learner ≤ executed h.after.node.learner
      grown r up =
          let other = s.still.each n (among_others m IsText x nodes start k n there_too) in
          omega (arith, as_one m IsText now other.1.holds n r other.0 up other.1.up, h.grows, h.reach)

      kept : (r : ReplicaValue) → IsUpAs now x r → executed r.node.learner ≤ executed h.other_after.node.learner
      kept r up = omega (arith, first_same r h.other_after up h.other.up)

      pub raises_on : IsRaising (i + 1) new
      raises_on = record {
        still = still_now m IsText x nodes start k now s.still n x new h.after h.other_after h.own h.other h.rests grown
            kept;
        rest = λ r q up up_too.
            let own = s.still.each x (is_first m IsText x nodes start k) in
            first_same own.0 q own.1.up up_too ∙ s.rest r own.0 up own.1.up;
        fed = λ j y some high here r c up up_too.
            let own = s.still.each x (is_first m IsText x nodes start k) in
            let mine = first_same own.0 c own.1.up up_too in
            elim (cases_Bool (eqb y n)) [
              | inl t ↦
                  let theirs : executed r.node.learner ≡ executed h.after.node.learner =
                  as_one m IsText new h.own.holds n r h.after
                  (subst (λ (p : ℕ). IsUpAs new p r) (eqb-true y n t) up) h.own.up in
                  omega (arith, theirs, h.closes, h.reach, mine)
              | inr t ↦
                  let before : j < i = elim (cases_lt j i) [
                    | inl lt ↦ lt
                    | inr last ↦ absurd (eqb-false y n t (same_some y n (sym here
                        ∙ ap (λ (p : ℕ). slice_get nodes p) (omega (arith, last, high)) ∙ at)))
                  ] in
                  let c_other : Contains k.others y = later_one x k.others nodes j y k.are some here in
                  let other = s.still.each y (among_others m IsText x nodes start k y c_other) in
                  let theirs : executed r.node.learner ≡ executed other.0.node.learner =
                  as_one m IsText new h.own.holds y r other.0 up (h.rests.rests y (Up other.0) (eqb-false y n t)
                  (differs m IsText x nodes start k y c_other) other.1.up) in
                  let earlier = s.fed j y some before here other.0 own.0 other.1.up own.1.up in
                  omega (arith, theirs, earlier, mine)
            ];
      }

  pub has_fed : (i : ℕ) (now : WorldState ReplicaValue) → IsRaising i now → length nodes ≤ i
      → HasFed m IsText x nodes start now k
  has_fed i now s enough = record {
    still = s.still;
    fed = λ n c r y up up_too. elim (first_or_other m IsText x nodes start k n c) [
      | inl is ↦
          let same = as_one m IsText now (s.still.each n c).1.holds n r y up
          (subst (λ (j : ℕ). IsUpAs now j y) (sym is) up_too) in
          omega (arith, same)
      | inr later ↦
          let j = one_later x k.others nodes n k.are later in
          s.fed j.0 n j.1 (omega (arith, j.2, enough)) j.3 r y up up_too
    ];
    rest = s.rest;
  }

  -- ---- one round after another

  -- the first one has executed as much as any, and so much if there are others
  pub record IsLeveling (reached : ℕ) (now : WorldState ReplicaValue) : Type 0 where
    pub still : StillLevels m IsText x nodes start now k
    pub above : (n : ℕ) → Contains nodes n → (r c : ReplicaValue) → IsUpAs now n r → IsUpAs now x c
        → executed r.node.learner ≤ executed c.node.learner
    pub reach : (n : ℕ) → Contains k.others n → (c : ReplicaValue) → IsUpAs now x c → executed c.node.learner ≡ reached

  pub begins_leveling : (reached : ℕ) (now : WorldState ReplicaValue) → HasRisen m IsText x nodes start now reached k
      → IsLeveling reached now
  begins_leveling reached now h = record { still = h.still; above = h.above; reach = h.reach }

  module _ (reached : ℕ) (now mid new : WorldState ReplicaValue) (next : ℕ) (s : IsLeveling reached now)
      (f : HasFed m IsText x nodes now mid (levels_again m IsText x nodes start k now s.still))
      (h : HasRisen m IsText x nodes mid new next (levels_again m IsText x nodes start k mid
      (still_both m IsText x nodes start k now s.still mid f.still))) where
    abbrev still_mid : StillLevels m IsText x nodes start mid k
    still_mid = still_both m IsText x nodes start k now s.still mid f.still

    still_new : StillLevels m IsText x nodes start new k
    still_new = still_both m IsText x nodes start k mid still_mid new h.still

    pub levels_on : IsLeveling next new
    levels_on = record { still = still_new; above = h.above; reach = h.reach }

    -- nothing has changed
    module _ (same : next ≤ reached) where
      first : Contains nodes x
      first = is_first m IsText x nodes start k

      other_reach : (n : ℕ) → (c : Contains k.others n)
          → executed (still_new.each n (among_others m IsText x nodes start k n c)).0.node.learner
          ≡ executed (still_new.each x first).0.node.learner
      other_reach n c =
          let there = among_others m IsText x nodes start k n c in
          let own_now = s.still.each x first in
          let own_mid = still_mid.each x first in
          let own_new = still_new.each x first in
          let other_mid = still_mid.each n there in
          let other_new = still_new.each n there in
          let one = s.reach n c own_now.0 own_now.1.up in
          let two = f.rest own_now.0 own_mid.0 own_now.1.up own_mid.1.up in
          let three = f.fed n there other_mid.0 own_mid.0 other_mid.1.up own_mid.1.up in
          let four = h.rest n c other_mid.0 other_new.0 other_mid.1.up other_new.1.up in
          let five = h.above n there other_new.0 own_new.0 other_new.1.up own_new.1.up in
          let six = h.reach n c own_new.0 own_new.1.up in
          omega (arith, one, two, three, four, five, six, same)

      pub are_equal : AreEqual m IsText x nodes start new k
      are_equal = record {
        e = executed (still_new.each x first).0.node.learner;
        each = λ n c. elim (first_or_other m IsText x nodes start k n c) [
          | inl is ↦ (
            (still_new.each x first).0,
            subst (λ (j : ℕ). MayGain m IsText new k.last j (still_new.each x first).0) (sym is)
                (still_new.each x first).1,
            refl,
          )
          | inr later ↦ (
            (still_new.each n (among_others m IsText x nodes start k n later)).0,
            (still_new.each n (among_others m IsText x nodes start k n later)).1,
            other_reach n later,
          )
        ];
        near =
            let top = still_new.each k.top k.among in
            let risen = still_new.rises k.top k.among (k.each k.top k.among).0 top.0 (k.each k.top k.among).1.up
            top.1.up in
            let most = h.above k.top k.among top.0 (still_new.each x first).0 top.1.up (still_new.each x first).1.up in
            let alpha : new.genesis.alpha ≡ start.genesis.alpha = ap (λ (g : Genesis). g.alpha) still_new.genesis in
            omega (arith, k.near, risen, most, alpha);
        asked = still_new.asked;
        genesis = still_new.genesis;
      }
