-- The nodes of a new cluster may level, contend and heal.
use Rattle.std.proofs.Common.{◌≡◌, inl, inr, ℕ, ◌<◌, List, [], ◌∷◌, Contains, refl, ap, sym, subst, arith}
use Rattle.lk_types.specs.declared.command.Request.{Request as RequestValue}
use Rattle.lk_agreement_laws.proofs.Histories.{cons_cases, contains_more}
use Rattle.lk_members.proofs.Memberships.{majority_lies_within}
use Rattle.lk_state.specs.Meanings.{Meaning}
use Rattle.lk_learner.specs.Learners.{executed}
use Rattle.lk_memory_disk.specs.Memory.{Memory}
use Rattle.lk_node.specs.Beginning.{greatest_round, next_ballot}
use Rattle.lk_node.specs.Executing.{NothingToRun}
use Rattle.lk_node.specs.NodeValue.{NodeValue}
use Rattle.lk_progress.specs.Beginnings.{NewClustersAreQuiet, StartsQuietly, new_node}
use Rattle.lk_progress.specs.Exchanges.{IsQuietVoter}
use Rattle.lk_replica.specs.ReplicaValue.{ReplicaValue}
use Rattle.lk_sim.specs.WorldStates.{WorldState}
use Rattle.lk_sim_nodes.specs.declared.sim_node.RunState.TheVariants.{Up, Down}
use Rattle.lk_world_progress.proofs.Stepping.{one_run_state, one_replica}
use Rattle.lk_world_progress.specs.Beginning.{IsNewIn, IsNewWorld}
use Rattle.lk_world_progress.specs.Exchanging.{number_of}
use Rattle.lk_world_progress.specs.Stepping.{IsUpAs, Lives}
use Rattle.lk_world_leftovers.specs.Filling.{PairsUpTo}
use Rattle.lk_world_leftovers.specs.Fixed.{IsFresh, NobodyChanges}
use Rattle.lk_world_leftovers.specs.Persisting.{AreFixed, NewWorldsContend, VotesUpTo}
use Rattle.lk_healing.proofs.Restarts.{sits_of}
use Rattle.lk_healing.specs.Contending.{MayContendFor, NewWorldsMayContendFor}
use Rattle.lk_healing.specs.Feeds.{MayGain}
use Rattle.lk_healing.specs.Heals.{HasRoundOnDisks, MayHeal, NewWorldsMayHeal}
use Rattle.lk_healing.specs.Levels.{MayLevel, NewWorldsMayLevel}

module _ (m : Meaning) (IsText : List ℕ → Type 0) (clusters : NewClustersAreQuiet) (w : WorldState ReplicaValue)
    (c : ReplicaValue) (index ticks : ℕ) (others : List ℕ) (new : IsNewWorld m IsText w c index ticks others)
    (changes : NobodyChanges w) where
  abbrev x : ℕ
  x = number_of c

  -- each of them is a new node, which has promised and executed nothing
  one_new : (n : ℕ) → Contains (x ∷ others) n → (q : ReplicaValue) × (passed : ℕ) × IsNewIn m w n passed q
  one_new n d = elim (cons_cases x others n d) [
    | inl is ↦ (c, ticks, subst (λ (j : ℕ). IsNewIn m w j ticks c) is new.new)
    | inr later ↦ new.voters n later
  ]

  on_new : (P : NodeValue → Type 0) (n : ℕ) (d : Contains (x ∷ others) n)
      → ((passed : ℕ) → P (new_node m w.genesis n passed)) → P (one_new n d).0.node
  on_new P n d all = subst P (sym (one_new n d).2.1) (all (one_new n d).1)

  quiet : StartsQuietly m w.genesis x ticks
  quiet = clusters m w.genesis x index ticks new.due

  voter : (n : ℕ) (d : Contains (x ∷ others) n)
      → IsQuietVoter (one_new n d).0.node (next_ballot (new_node m w.genesis x ticks)) 0
  voter n d = on_new (λ (y : NodeValue). IsQuietVoter y (next_ballot (new_node m w.genesis x ticks)) 0) n d
      (λ passed. quiet.others n passed)

  first : Contains (x ∷ others) x
  first = (0, omega arith, refl)

  fixed : AreFixed w x others
  fixed = record {
    changes = changes;
    named = majority_lies_within w.genesis.members (x ∷ others) x new.majority first;
    majority = new.majority;
  }

  -- ---- they may level

  gains : (n : ℕ) → Contains (x ∷ others) n → (q : ReplicaValue) × MayGain m IsText w 0 n q
  gains n d = (
    (one_new n d).0,
    record {
      holds = new.holds;
      member = majority_lies_within w.genesis.members (x ∷ others) n new.majority d;
      up = (one_new n d).2.0;
      idle = ap (λ (y : NodeValue). y.leader.term) (one_new n d).2.1;
      waiting = ap (λ (y : NodeValue). y.leader.waiting) (one_new n d).2.1;
      known = on_new NothingToRun n d (λ passed v e. omega (arith, e.1));
      near = (voter n d).near;
      within = (voter n d).behind;
      pairs = on_new (λ (y : NodeValue). PairsUpTo y 0) n d (λ passed p e. absurd (omega (arith, e.1)));
      votes = on_new (λ (y : NodeValue). VotesUpTo y 0) n d (λ passed v e. absurd (omega (arith, e.1)));
      round = on_new (λ (y : NodeValue). greatest_round y < 281474976710656) n d (λ passed. omega arith);
    },
  )

  may_level : MayLevel m IsText w x (x ∷ others)
  may_level = record {
    others = others;
    are = refl;
    distinct = new.distinct;
    changes = changes;
    last = 0;
    each = gains;
    top = x;
    among = first;
    near = omega arith;
  }

  -- ---- they may contend

  may_contend : NewWorldsContend m IsText → (r : RequestValue) → IsFresh w r
      → MayContendFor m IsText w x (x ∷ others) r
  may_contend contend r fresh = record {
    stands = record {
      others = others;
      are = refl;
      e = 0;
      last = 0;
      contends = contend w c index ticks others new;
      within = omega arith;
      level = λ n d q up.
          let g = gains n (contains_more x others n d) in
          let same = one_replica m IsText w new.holds n g.0 q g.1.up up in
          omega (arith, g.1.within, ap (λ (y : ReplicaValue). executed y.node.learner) same);
      rounds = λ n d q up.
          let g = gains n d in
          subst (λ (y : ReplicaValue). greatest_round y.node < 281474976710656)
          (one_replica m IsText w new.holds n g.0 q g.1.up up) g.1.round;
      fixed = fixed;
      room = omega arith;
    };
    fresh = fresh;
  }

  -- ---- they may heal

  up_or_down : (r : ReplicaValue) (d : Memory) → Up r ≡ Down d → ⊥
  up_or_down r d e = cc e

  round_there : (n : ℕ) → Contains (x ∷ others) n → HasRoundOnDisks w n
  round_there n d = record {
    up = λ q up. subst (λ (y : ReplicaValue). y.node.acceptor.state.promised.round < 281474976710656)
        (one_replica m IsText w new.holds n (one_new n d).0 q (one_new n d).2.0 up)
        (on_new (λ (y : NodeValue). y.acceptor.state.promised.round < 281474976710656) n d (λ passed. omega arith));
    down = λ device at zero_text s tells. absurd (up_or_down (one_new n d).0 device
        (one_run_state m IsText w new.holds n (Up (one_new n d).0) (Down device) (one_new n d).2.0 at));
  }

  may_heal : (r : RequestValue) → IsFresh w r → MayHeal w x (x ∷ others) r
  may_heal r fresh = record {
    others = others;
    are = refl;
    distinct = new.distinct;
    fixed = fixed;
    started = λ n d. (Up (one_new n d).0, sits_of w n (Up (one_new n d).0) (one_new n d).2.0);
    rounds = round_there;
    fresh = fresh;
  }

pub new_worlds_may_level : (m : Meaning) (IsText : List ℕ → Type 0) → NewClustersAreQuiet → NewWorldsMayLevel m IsText
new_worlds_may_level m IsText clusters w c index ticks others new changes =
    may_level m IsText clusters w c index ticks others new changes

pub new_worlds_may_contend : (m : Meaning) (IsText : List ℕ → Type 0) → NewClustersAreQuiet
    → NewWorldsContend m IsText → NewWorldsMayContendFor m IsText
new_worlds_may_contend m IsText clusters contend w c index ticks others r new changes fresh =
    may_contend m IsText clusters w c index ticks others new changes contend r fresh

pub new_worlds_may_heal : (m : Meaning) (IsText : List ℕ → Type 0) → NewClustersAreQuiet → NewWorldsMayHeal m IsText
new_worlds_may_heal m IsText clusters w c index ticks others r new changes fresh =
    may_heal m IsText clusters w c index ticks others new changes r fresh
