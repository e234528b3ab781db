-- The candidate feeds others and is fed by others, one after another, until all are level.
use Rattle.std.proofs.Common.{◌≡◌, ◌∙◌, ◌⊎◌, inl, inr, ℕ, suc, ◌+◌, ◌*◌, ◌<◌, ◌≤◌, Bool, true, false, cond, eqb, List}
use Rattle.std.proofs.Common.{[], ◌∷◌, Contains, refl, ap, sym, subst, arith}
use Rattle.std.proofs.lemmas.Bool.{cases_lt, eqb-false, eqb-true}
use Rattle.lk_agreement_laws.proofs.Histories.{cons_cases, contains_more}
use Rattle.lk_state.specs.Meanings.{Meaning}
use Rattle.lk_state.specs.States.{WholeValue}
use Rattle.lk_learner.specs.Learners.{executed}
use Rattle.lk_replica.specs.ReplicaValue.{ReplicaValue}
use Rattle.lk_sim.specs.WorldStates.{WorldState}
use Rattle.lk_world_feeding.proofs.Knowing.{window_alpha}
use Rattle.lk_world_feeding.specs.Gathering.{AllCanBeFed}
use Rattle.lk_world_progress.proofs.Stepping.{one_replica}
use Rattle.lk_world_progress.specs.Exchanging.{number_of}
use Rattle.lk_world_progress.specs.Stepping.{IsUpAs}
use Rattle.lk_world_leftovers.proofs.Lagging.{last_may}
use Rattle.lk_world_leftovers.specs.Lagging.{AllLast, Feeds, IsFedBy, IsFedByIn, IsFedIn, LaggingCandidateIsFed}
use Rattle.lk_world_leftovers.specs.Lagging.{LaggingVoterIsFed, MayContend, MayLag}
use Rattle.lk_world_leftovers.specs.Leveling.{AreLevel, AreOpen, CanGain, ExchangesFeedAll, FeedInTurn, Feeding}
use Rattle.lk_world_leftovers.specs.Leveling.{Happens, HasExecuted, HaveFed, UnlevelNodesCanBeFed}
use Rattle.lk_world_leftovers.specs.Leveling.{IsNotFed, LevelNodesContend, feeds, is_fed_by, is_sent_parts_by}
use Rattle.lk_world_leftovers.specs.Leveling.{NewWorldsAreLevel, partner, sends_parts, times_by, times_fed, times_to}
use Rattle.lk_world_leftovers.specs.Persisting.{Contends, MayVote, NewWorldsContend}
use Rattle.lk_world_leftovers.specs.Snapshots.{HasTakenParts, PartsAreTaken, TakesParts}

-- ---- counts

to_more : (n : ℕ) (a : Feeding) (fs : List Feeding) → times_to n (a ∷ fs) ≡ times_to n (a ∷ []) + times_to n fs
to_more n (feeds k) fs = by_test (eqb k n)
  where
    by_test : (t : Bool) → cond t (suc (times_to n fs)) (times_to n fs) ≡ cond t (suc 0) 0 + times_to n fs
    by_test true = omega arith
    by_test false = omega arith
to_more n (is_fed_by k) fs = omega arith
to_more n (sends_parts k) fs = omega arith
to_more n (is_sent_parts_by k) fs = omega arith

by_more : (n : ℕ) (a : Feeding) (fs : List Feeding) → times_by n (a ∷ fs) ≡ times_by n (a ∷ []) + times_by n fs
by_more n (feeds k) fs = omega arith
by_more n (is_fed_by k) fs = by_test (eqb k n)
  where
    by_test : (t : Bool) → cond t (suc (times_by n fs)) (times_by n fs) ≡ cond t (suc 0) 0 + times_by n fs
    by_test true = omega arith
    by_test false = omega arith
by_more n (sends_parts k) fs = omega arith
by_more n (is_sent_parts_by k) fs = omega arith

fed_more : (a : Feeding) (fs : List Feeding) → times_fed (a ∷ fs) ≡ times_fed (a ∷ []) + times_fed fs
fed_more (feeds k) fs = omega arith
fed_more (is_fed_by k) fs = omega arith
fed_more (sends_parts k) fs = omega arith
fed_more (is_sent_parts_by k) fs = omega arith

not_fed_more : (n : ℕ) (a : Feeding) (fs : List Feeding) → IsNotFed n (a ∷ fs)
    → IsNotFed n (a ∷ []) × IsNotFed n fs
not_fed_more n (feeds k) fs h = ((h.0, tt), h.1)
not_fed_more n (is_fed_by k) fs h = (tt, h)
not_fed_more n (sends_parts k) fs h = ((h.0, tt), h.1)
not_fed_more n (is_sent_parts_by k) fs h = (tt, h)

-- ---- what each gains

-- A node that was the first replica is the second one by now, while the candidate, which had executed e positions, has
-- executed f.
record Moves (fs : List Feeding) (j e f : ℕ) (r q : ReplicaValue) : Type 0 where
  rises : executed r.node.learner + times_to j fs ≤ executed q.node.learner
  fed : (e ≤ executed q.node.learner) ⊎ (executed r.node.learner + times_to j fs * 16 ≤ executed q.node.learner)
  still : IsNotFed j fs → executed q.node.learner ≡ executed r.node.learner
  taught : (executed r.node.learner ≤ f) ⊎ (e + times_by j fs * 16 ≤ f)

moves_on : (a : Feeding) (fs : List Feeding) (j e f g : ℕ) (r q p : ReplicaValue) → e ≤ f → f ≤ g
    → Moves (a ∷ []) j e f r q → Moves fs j f g q p → Moves (a ∷ fs) j e g r p
moves_on a fs j e f g r q p grown grown_on one rest = record {
  rises = omega (arith, one.rises, rest.rises, to_more j a fs);
  fed = elim one.fed [
    | inl all ↦ inl (omega (arith, all, rest.rises))
    | inr some ↦ elim rest.fed [
      | inl all ↦ inl (omega (arith, grown, all))
      | inr more ↦ inr (omega (arith, some, more, to_more j a fs))
    ]
  ];
  still = λ none.
      let parts = not_fed_more j a fs none in
      rest.still parts.1 ∙ one.still parts.0;
  taught = elim one.taught [
    | inl all ↦ inl (omega (arith, all, grown_on))
    | inr some ↦ elim rest.taught [
      | inl all ↦ inl (omega (arith, one.rises, all))
      | inr more ↦ inr (omega (arith, some, more, by_more j a fs))
    ]
  ];
}

module _ (m : Meaning) (IsText : List ℕ → Type 0) (voter_law : LaggingVoterIsFed m IsText)
    (own_law : LaggingCandidateIsFed m IsText) (parts_law : PartsAreTaken m IsText) (x : ℕ) (others : List ℕ)
    (last : ℕ) where
  record Levels (fs : List Feeding) (e : ℕ) (old new : WorldState ReplicaValue) : Type 0 where
    f : ℕ
    may : MayContend m IsText new x f others last
    grows : e + times_fed fs ≤ f
    moves : (j : ℕ) → Contains others j → (r : ReplicaValue) → IsUpAs old j r
        → (q : ReplicaValue) × IsUpAs new j q × Moves fs j e f r q

  then_level : (a : Feeding) (fs : List Feeding) (e : ℕ) (old mid new : WorldState ReplicaValue)
      (one : Levels (a ∷ []) e old mid) → Levels fs one.f mid new → Levels (a ∷ fs) e old new
  then_level a fs e old mid new one rest = record {
    f = rest.f;
    may = rest.may;
    grows = omega (arith, one.grows, rest.grows, fed_more a fs);
    moves = λ j c r up.
        let q = one.moves j c r up in
        let p = rest.moves j c q.0 q.1 in (
          p.0,
          p.1,
          moves_on a fs j e one.f rest.f r q.0 p.0 (omega (arith, one.grows)) (omega (arith, rest.grows)) q.2 p.2,
        );
  }

  -- ---- one of them

  module _ (e : ℕ) (old ready mid : WorldState ReplicaValue) (k : MayContend m IsText old x e others last)
      (all : AllLast m IsText x others old ready) (n : ℕ) (there : Contains others n) where
    abbrev then_may : MayContend m IsText ready x e others last
    then_may = last_may m IsText x e others last old ready k all

    not_candidate : (j : ℕ) → Contains others j → j ≡ x → ⊥
    not_candidate j c is = k.distinct.0 (subst (λ (i : ℕ). Contains others i) is c)

    -- ---- another node

    module _ (run : Feeds m IsText x n ready mid) where
      one_to : IsFedIn m IsText x e n others last ready mid run
      one_to = voter_law x e n others last ready mid then_may there run

      led : executed run.candidate.node.learner ≡ e
      led = subst (λ (r : ReplicaValue). executed r.node.learner ≡ e)
          (one_replica m IsText ready then_may.candidate.holds x then_may.candidate.candidate run.candidate
          then_may.candidate.up run.up) then_may.candidate.reach

      moved_to : (j : ℕ) → Contains others j → (r : ReplicaValue) → IsUpAs old j r
          → (q : ReplicaValue) × IsUpAs mid j q × Moves (feeds n ∷ []) j e e r q
      moved_to j c r up = by_test (eqb n j) refl
        where
          was : (q : ReplicaValue) × IsUpAs ready j q × (executed q.node.learner ≡ executed r.node.learner)
          was =
              let l = all.others_last j c r up in
              (l.0, l.1, ap (λ (w : WholeValue). w.roster.executed) l.2.whole)

          by_test : (t : Bool) → eqb n j ≡ t
              → (q : ReplicaValue) × IsUpAs mid j q × Moves (feeds n ∷ []) j e e r q
          by_test true t =
              let is : n ≡ j = eqb-true n j t in
              let voter : executed run.voter.node.learner ≡ executed r.node.learner =
              ap (λ (y : ReplicaValue). executed y.node.learner)
              (one_replica m IsText ready then_may.candidate.holds n run.voter was.0 run.voter_up
              (subst (λ (i : ℕ). IsUpAs ready i was.0) (sym is) was.1)) ∙ was.2 in
              let gains = one_to.gains in (
                one_to.after,
                subst (λ (i : ℕ). IsUpAs mid i one_to.after) is one_to.is,
                record {
                  rises = rw t (omega (arith, gains.0, voter));
                  fed = rw t (elim gains.1 [
                    | inl most ↦ inl (omega (arith, most, led))
                    | inr some ↦ inr (omega (arith, some, voter))
                  ]);
                  still = λ none. absurd (none.0 is);
                  taught = inr (omega arith);
                },
              )
          by_test false t = (
            was.0,
            one_to.rest j was.0 (not_candidate j c) (λ is. eqb-false n j t (sym is)) was.1,
            record {
              rises = rw t (omega (arith, was.2));
              fed = rw t (inr (omega (arith, was.2)));
              still = λ none. was.2;
              taught = inr (omega arith);
            },
          )

      level_to : Levels (feeds n ∷ []) e old mid
      level_to = record { f = e; may = one_to.may; grows = omega arith; moves = moved_to }

    -- ---- the candidate

    module _ (run : IsFedBy m IsText x n ready mid) where
      one_by : IsFedByIn m IsText x n others last ready mid run
      one_by = own_law x e n others last ready mid then_may there run

      abbrev f : ℕ
      f = executed one_by.after.node.learner

      was_led : executed run.candidate.node.learner ≡ e
      was_led = subst (λ (r : ReplicaValue). executed r.node.learner ≡ e)
          (one_replica m IsText ready then_may.candidate.holds x then_may.candidate.candidate run.candidate
          then_may.candidate.up run.up) then_may.candidate.reach

      moved_by : (j : ℕ) → Contains others j → (r : ReplicaValue) → IsUpAs old j r
          → (q : ReplicaValue) × IsUpAs mid j q × Moves (is_fed_by n ∷ []) j e f r q
      moved_by j c r up = by_test (eqb n j) refl
        where
          was : (q : ReplicaValue) × IsUpAs ready j q × (executed q.node.learner ≡ executed r.node.learner)
          was =
              let l = all.others_last j c r up in
              (l.0, l.1, ap (λ (w : WholeValue). w.roster.executed) l.2.whole)

          now : (q : ReplicaValue) × IsUpAs mid j q × (executed q.node.learner ≡ executed r.node.learner)
          now =
              let l = one_by.rest j was.0 c was.1 in
              (l.0, l.1, ap (λ (w : WholeValue). w.roster.executed) l.2.whole ∙ was.2)

          by_test : (t : Bool) → eqb n j ≡ t
              → (q : ReplicaValue) × IsUpAs mid j q × Moves (is_fed_by n ∷ []) j e f r q
          by_test true t =
              let is : n ≡ j = eqb-true n j t in
              let voter : executed run.voter.node.learner ≡ executed r.node.learner =
              ap (λ (y : ReplicaValue). executed y.node.learner)
              (one_replica m IsText ready then_may.candidate.holds n run.voter was.0 run.voter_up
              (subst (λ (i : ℕ). IsUpAs ready i was.0) (sym is) was.1)) ∙ was.2 in (
                now.0,
                now.1,
                record {
                  rises = omega (arith, now.2);
                  fed = inr (omega (arith, now.2));
                  still = λ none. now.2;
                  taught = rw t (elim one_by.gains.1 [
                    | inl most ↦ inl (omega (arith, most, voter))
                    | inr some ↦ inr (omega (arith, some, was_led))
                  ]);
                },
              )
          by_test false t = (
            now.0,
            now.1,
            record {
              rises = omega (arith, now.2);
              fed = inr (omega (arith, now.2));
              still = λ none. now.2;
              taught = rw t (inr (omega (arith, one_by.gains.0, was_led)));
            },
          )

      level_by : Levels (is_fed_by n ∷ []) e old mid
      level_by = record {
        f = f;
        may = one_by.may;
        grows = omega (arith, one_by.gains.0, was_led);
        moves = moved_by;
      }

    -- ---- parts

    -- what an exchange of parts leaves, whoever takes them
    module _ (a : Feeding) (taker other : ℕ) (run : TakesParts m IsText taker other ready mid)
        (one : HasTakenParts m IsText x e taker other others last ready mid run) (no_count : times_fed (a ∷ []) ≡ 0)
        (no_to : (j : ℕ) → times_to j (a ∷ []) ≡ 0) (no_by : (j : ℕ) → times_by j (a ∷ []) ≡ 0)
        (not_taker : (j : ℕ) → Contains others j → IsNotFed j (a ∷ []) → j ≡ taker → ⊥) where
      moved_parts : (j : ℕ) → Contains others j → (r : ReplicaValue) → IsUpAs old j r
          → (q : ReplicaValue) × IsUpAs mid j q × Moves (a ∷ []) j e one.f r q
      moved_parts j c r up =
          let l = all.others_last j c r up in
          let was : executed l.0.node.learner ≡ executed r.node.learner =
          ap (λ (w : WholeValue). w.roster.executed) l.2.whole in
          let q = one.nobody.keeps j (contains_more x others j c) l.0 l.1 in (
            q.0,
            q.1,
            record {
              rises = omega (arith, was, q.2, no_to j);
              fed = inr (omega (arith, was, q.2, no_to j));
              still = λ none. one.nobody.rests j (contains_more x others j c) (not_taker j c none) l.0 q.0 l.1 q.1
                  ∙ was;
              taught = inr (omega (arith, one.grows, no_by j));
            },
          )

      level_parts : Levels (a ∷ []) e old mid
      level_parts = record {
        f = one.f;
        may = one.may;
        grows = omega (arith, one.grows, no_count);
        moves = moved_parts;
      }

    level_sent : (run : TakesParts m IsText n x ready mid) → Levels (sends_parts n ∷ []) e old mid
    level_sent run = level_parts (sends_parts n) n x run
        ((parts_law x e n others last ready mid then_may there).1 run) refl (λ j. refl) (λ j. refl)
        (λ j c none is. none.0 (sym is))

    level_taken : (run : TakesParts m IsText x n ready mid) → Levels (is_sent_parts_by n ∷ []) e old mid
    level_taken run = level_parts (is_sent_parts_by n) x n run
        ((parts_law x e n others last ready mid then_may there).0 run) refl (λ j. refl) (λ j. refl)
        (λ j c none. not_candidate j c)

  -- ---- all of them

  one_levels : (a : Feeding) (e : ℕ) (old ready mid : WorldState ReplicaValue) → MayContend m IsText old x e others last
      → AllLast m IsText x others old ready → Contains others (partner a) → Happens m IsText x a ready mid
      → Levels (a ∷ []) e old mid
  one_levels (feeds n) e old ready mid k all there run = level_to e old ready mid k all n there run
  one_levels (is_fed_by n) e old ready mid k all there run = level_by e old ready mid k all n there run
  one_levels (sends_parts n) e old ready mid k all there run = level_sent e old ready mid k all n there run
  one_levels (is_sent_parts_by n) e old ready mid k all there run = level_taken e old ready mid k all n there run

  all_level : (fs : List Feeding) (e : ℕ) (old new : WorldState ReplicaValue) → MayContend m IsText old x e others last
      → FeedInTurn m IsText x others fs old new → Levels fs e old new
  all_level [] e old new k same = record {
    f = e;
    may = subst (λ (w : WorldState ReplicaValue). MayContend m IsText w x e others last) (sym same) k;
    grows = omega arith;
    moves = λ j c r up. (
      r,
      subst (λ (w : WorldState ReplicaValue). IsUpAs w j r) (sym same) up,
      record {
        rises = omega arith;
        fed = inr (omega arith);
        still = λ none. refl;
        taught = inr (omega arith);
      },
    );
  }
  all_level (a ∷ fs) e old new k d =
      let one : Levels (a ∷ []) e old d.1 = one_levels a e old d.0 d.1 k d.2 d.3 d.4 in
      then_level a fs e old d.1 new one (all_level fs one.f d.1 new one.may d.5)

  have_fed : (fs : List Feeding) (e : ℕ) (old new : WorldState ReplicaValue) → Levels fs e old new
      → HaveFed m IsText x e others last fs old new
  have_fed fs e old new l = record {
    f = l.f;
    may = l.may;
    grows = omega (arith, l.grows);
    rises = λ n c r p up later.
        let q = l.moves n c r up in
        let same : executed q.0.node.learner ≡ executed p.node.learner =
        ap (λ (y : ReplicaValue). executed y.node.learner)
        (one_replica m IsText new l.may.candidate.holds n q.0 p q.1 later) in
        omega (arith, q.2.rises, same);
    few = omega (arith, l.grows, l.may.within);
    few_to = λ n c r up.
        let q = l.moves n c r up in
        let within : executed q.0.node.learner ≤ last =
        subst (λ (y : ReplicaValue). executed y.node.learner ≤ last)
        (one_replica m IsText new l.may.candidate.holds n (l.may.others_lag n c).replica q.0
        (l.may.others_lag n c).up q.1) (l.may.others_lag n c).within in
        omega (arith, q.2.rises, within);
    passes = λ n c r p up later none enough.
        let q = l.moves n c r up in
        let same : executed q.0.node.learner ≡ executed p.node.learner =
        ap (λ (y : ReplicaValue). executed y.node.learner)
        (one_replica m IsText new l.may.candidate.holds n q.0 p q.1 later) in
        let still : executed q.0.node.learner ≡ executed r.node.learner = q.2.still none in
        elim q.2.taught [
          | inl all ↦ omega (arith, same, still, all)
          | inr some ↦ omega (arith, same, still, some, enough)
        ];
    reaches = λ n c r p up later enough.
        let q = l.moves n c r up in
        let same : executed q.0.node.learner ≡ executed p.node.learner =
        ap (λ (y : ReplicaValue). executed y.node.learner)
        (one_replica m IsText new l.may.candidate.holds n q.0 p q.1 later) in
        elim q.2.fed [
          | inl all ↦ omega (arith, same, all)
          | inr some ↦ omega (arith, same, some, enough)
        ];
  }

pub exchanges_feed_all : (m : Meaning) (IsText : List ℕ → Type 0) → LaggingVoterIsFed m IsText
    → LaggingCandidateIsFed m IsText → PartsAreTaken m IsText → ExchangesFeedAll m IsText
exchanges_feed_all m IsText voter_law own_law parts_law x e others last fs old new k run =
    have_fed m IsText voter_law own_law parts_law x others last fs e old new
    (all_level m IsText voter_law own_law parts_law x others last fs e old new k run)

-- ---- level

pub level_nodes_contend : (m : Meaning) (IsText : List ℕ → Type 0) → LevelNodesContend m IsText
level_nodes_contend m IsText x e others last w k level = record {
  holds = k.candidate.holds;
  candidate = k.candidate.candidate;
  up = k.candidate.up;
  reach = k.candidate.reach;
  idle = k.candidate.idle;
  waiting = k.candidate.waiting;
  known = k.candidate.known;
  near = k.candidate.near;
  pairs = k.candidate.pairs;
  votes = k.candidate.votes;
  others_may = λ n c.
      let l = k.others_lag n c in
      let behind : executed l.replica.node.learner ≤ executed k.candidate.candidate.node.learner =
      level.behind n c k.candidate.candidate l.replica k.candidate.up l.up in
      record {
        replica = l.replica;
        up = l.up;
        near = l.near;
        behind = omega (arith, behind, k.candidate.reach);
        reaches = level.reaches n c l.replica l.up;
        pairs = l.pairs;
        votes = l.votes;
      };
  distinct = k.distinct;
}

-- ---- not level

module _ (m : Meaning) (IsText : List ℕ → Type 0) (law : AllCanBeFed m IsText) (x e : ℕ) (others : List ℕ) (most : ℕ)
    (w : WorldState ReplicaValue) (k : MayContend m IsText w x e others (most + 2 * w.genesis.alpha))
    (some : HasExecuted w (x ∷ others) most) (are_open : AreOpen w (x ∷ others)) where
  abbrev own : ReplicaValue
  own = k.candidate.candidate

  differs : (n : ℕ) → Contains others n → n ≡ x → ⊥
  differs n c is = k.distinct.0 (subst (λ (j : ℕ). Contains others j) is c)

  own_gains : (n : ℕ) → Contains others n → (r : ReplicaValue) → IsUpAs w n r → e < executed r.node.learner
      → CanGain m IsText w x n
  own_gains n c r up less = record {
    behind = own;
    ahead = r;
    less = omega (arith, less, k.candidate.reach);
    way = law w x n own r k.candidate.holds (λ is. differs n c (sym is)) k.candidate.up up
        (are_open x n (0, omega arith, refl) (contains_more x others n c) own r k.candidate.up up);
  }

  other_gains : (n : ℕ) → Contains others n → (r : ReplicaValue) → IsUpAs w n r → executed r.node.learner < e
      → CanGain m IsText w n x
  other_gains n c r up less = record {
    behind = r;
    ahead = own;
    less = omega (arith, less, k.candidate.reach);
    way = law w n x r own k.candidate.holds (differs n c) up k.candidate.up
        (are_open n x (contains_more x others n c) (0, omega arith, refl) r own up k.candidate.up);
  }

  -- somebody is ahead, or nobody
  ahead_or_not : (ns : List ℕ) → ((n : ℕ) → Contains ns n → Contains others n)
      → ((n : ℕ) × Contains others n × CanGain m IsText w x n)
      ⊎ ((n : ℕ) → Contains ns n → (r : ReplicaValue) → IsUpAs w n r → executed r.node.learner ≤ e)
  ahead_or_not [] among = inr (λ n c. absurd (omega (arith, c.1)))
  ahead_or_not (n ∷ ns) among =
      let c : Contains others n = among n (0, omega arith, refl) in
      let l : MayLag w (most + 2 * w.genesis.alpha) n = k.others_lag n c in
      elim (cases_lt e (executed l.replica.node.learner)) [
        | inl less ↦ inl (n, c, own_gains n c l.replica l.up less)
        | inr low ↦ elim (ahead_or_not ns (λ j d. among j (contains_more n ns j d))) [
          | inl found ↦ inl found
          | inr rest ↦ inr (λ j d r up. elim (cons_cases n ns j d) [
            | inl is ↦ subst (λ (y : ReplicaValue). executed y.node.learner ≤ e)
                (one_replica m IsText w k.candidate.holds n l.replica r l.up
                (subst (λ (i : ℕ). IsUpAs w i r) (sym is) up)) low
            | inr more ↦ rest j more r up
          ])
        ]
      ]

  -- somebody is behind, or nobody
  behind_or_not : most ≤ e → (ns : List ℕ) → ((n : ℕ) → Contains ns n → Contains others n)
      → ((n : ℕ) × Contains others n × CanGain m IsText w n x)
      ⊎ ((n : ℕ) → Contains ns n → (r : ReplicaValue) → IsUpAs w n r → most ≤ executed r.node.learner)
  behind_or_not enough [] among = inr (λ n c. absurd (omega (arith, c.1)))
  behind_or_not enough (n ∷ ns) among =
      let c : Contains others n = among n (0, omega arith, refl) in
      let l : MayLag w (most + 2 * w.genesis.alpha) n = k.others_lag n c in
      elim (cases_lt (executed l.replica.node.learner) most) [
        | inl less ↦ inl (n, c, other_gains n c l.replica l.up (omega (arith, less, enough)))
        | inr reached ↦ elim (behind_or_not enough ns (λ j d. among j (contains_more n ns j d))) [
          | inl found ↦ inl found
          | inr rest ↦ inr (λ j d r up. elim (cons_cases n ns j d) [
            | inl is ↦ subst (λ (y : ReplicaValue). most ≤ executed y.node.learner)
                (one_replica m IsText w k.candidate.holds n l.replica r l.up
                (subst (λ (i : ℕ). IsUpAs w i r) (sym is) up)) reached
            | inr more ↦ rest j more r up
          ])
        ]
      ]

  by_ahead : ((n : ℕ) × Contains others n × CanGain m IsText w x n)
      ⊎ ((n : ℕ) → Contains others n → (r : ReplicaValue) → IsUpAs w n r → executed r.node.learner ≤ e)
      → AreLevel w x others (most + 2 * w.genesis.alpha)
      ⊎ ((n : ℕ) × Contains others n × (CanGain m IsText w x n ⊎ CanGain m IsText w n x))
  by_ahead (inl found) = inr (found.0, found.1, inl found.2)
  by_ahead (inr low) = by_behind (behind_or_not enough others (λ n c. c))
    where
      enough : most ≤ e
      enough = elim (cons_cases x others some.0 some.1) [
        | inl is ↦
            let same : executed own.node.learner ≡ executed some.2.0.node.learner =
            ap (λ (y : ReplicaValue). executed y.node.learner)
            (one_replica m IsText w k.candidate.holds x own some.2.0 k.candidate.up
            (subst (λ (i : ℕ). IsUpAs w i some.2.0) (sym is) some.2.1)) in
            omega (arith, same, some.2.2, k.candidate.reach)
        | inr other ↦ (let under = low some.0 other some.2.0 some.2.1 in omega (arith, under, some.2.2))
      ]

      by_behind : ((n : ℕ) × Contains others n × CanGain m IsText w n x)
          ⊎ ((n : ℕ) → Contains others n → (r : ReplicaValue) → IsUpAs w n r → most ≤ executed r.node.learner)
          → AreLevel w x others (most + 2 * w.genesis.alpha)
          ⊎ ((n : ℕ) × Contains others n × (CanGain m IsText w x n ⊎ CanGain m IsText w n x))
      by_behind (inl found) = inr (found.0, found.1, inr found.2)
      by_behind (inr reached) = inl (record {
        behind = λ n c q r q_up up.
            let same : executed own.node.learner ≡ executed q.node.learner =
            ap (λ (y : ReplicaValue). executed y.node.learner)
            (one_replica m IsText w k.candidate.holds x own q k.candidate.up q_up) in
            let under = low n c r up in
            omega (arith, under, same, k.candidate.reach);
        reaches = λ n c r up.
            let there = reached n c r up in
            omega (arith, there, window_alpha m IsText w k.candidate.holds n r up);
      })

pub unlevel_can_be_fed : (m : Meaning) (IsText : List ℕ → Type 0) → AllCanBeFed m IsText
    → UnlevelNodesCanBeFed m IsText
unlevel_can_be_fed m IsText law x e others most w k some are_open =
    by_ahead m IsText law x e others most w k some are_open
    (ahead_or_not m IsText law x e others most w k some are_open others (λ n c. c))

-- ---- a new cluster

module _ (m : Meaning) (IsText : List ℕ → Type 0) (w : WorldState ReplicaValue) (x : ℕ) (others : List ℕ)
    (k : Contends m IsText w x 0 0 others 0) where
  none_above : (n : ℕ) → Contains others n → (r : ReplicaValue) → IsUpAs w n r → executed r.node.learner ≤ 0
  none_above n c r up =
      let v : MayVote w 0 0 n = k.others_may n c in
      subst (λ (y : ReplicaValue). executed y.node.learner ≤ 0)
      (one_replica m IsText w k.holds n v.replica r v.up up) v.behind

  new_may : MayContend m IsText w x 0 others (2 * w.genesis.alpha)
  new_may = record {
    candidate = record {
      holds = k.holds;
      candidate = k.candidate;
      up = k.up;
      reach = k.reach;
      idle = k.idle;
      waiting = k.waiting;
      known = k.known;
      near = k.near;
      pairs = λ p c. let low = k.pairs p c in omega (arith, low);
      votes = λ v c. let low = k.votes v c in omega (arith, low);
      others_may = λ n c. absurd (omega (arith, c.1));
      distinct = (λ c. absurd (omega (arith, c.1)), tt);
    };
    within = omega arith;
    others_lag = λ n c.
        let v : MayVote w 0 0 n = k.others_may n c in
        record {
          replica = v.replica;
          up = v.up;
          near = v.near;
          within = omega (arith, v.behind);
          pairs = λ p d. let low = v.pairs p d in omega (arith, low);
          votes = λ y d. let low = v.votes y d in omega (arith, low);
        };
    distinct = k.distinct;
  }

  new_level : AreLevel w x others (2 * w.genesis.alpha)
  new_level = record {
    behind = λ n c q r own up. let low = none_above n c r up in omega (arith, low);
    reaches = λ n c r up. omega (arith, window_alpha m IsText w k.holds n r up);
  }

pub new_worlds_are_level : (m : Meaning) (IsText : List ℕ → Type 0) → NewWorldsContend m IsText
    → NewWorldsAreLevel m IsText
new_worlds_are_level m IsText law w c index ticks others new =
    let k : Contends m IsText w (number_of c) 0 0 others 0 = law w c index ticks others new in
    (new_may m IsText w (number_of c) others k, new_level m IsText w (number_of c) others k)
