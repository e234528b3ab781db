-- What a step leaves of a node that may gain.
use Rattle.std.proofs.Common.{◌≡◌, ◌∙◌, ℕ, ◌+◌, ◌<◌, ◌≤◌, Bool, true, false, cond, List, [], ◌∷◌, None}
use Rattle.std.proofs.Common.{Contains, nat_lt, refl, ap, sym, subst, arith}
use Rattle.std.proofs.lemmas.Bool.Decides.{nat_tests}
use Rattle.lk_types.specs.BallotValue.{BallotValue}
use Rattle.lk_types.specs.declared.genesis.Genesis.{Genesis}
use Rattle.lk_types.specs.declared.vote.Vote.{Vote}
use Rattle.lk_agreement_laws.proofs.Histories.{filter_from, only}
use Rattle.lk_members.specs.Rosters.{is_member}
use Rattle.lk_state.specs.Meanings.{Meaning}
use Rattle.lk_state.specs.States.{WholeValue}
use Rattle.lk_learner.specs.Learners.{Pair, executed}
use Rattle.lk_node.specs.Beginning.{greatest_round}
use Rattle.lk_node.specs.NewBases.{with_snapshot}
use Rattle.lk_node.specs.NodeValue.{NodeValue}
use Rattle.lk_node_interface.specs.Rounds.{greater_round}
use Rattle.lk_replica.specs.ReplicaValue.{ReplicaValue}
use Rattle.lk_sim.specs.WorldStates.{WorldState}
use Rattle.lk_world_progress.proofs.Balloting.{found_has, near_snapshot}
use Rattle.lk_world_progress.specs.Stepping.{Holds, IsFound, IsUpAs}
use Rattle.lk_world_leftovers.specs.Lagging.{Lasts, MayContend, MayLag}
use Rattle.lk_world_leftovers.specs.Persisting.{Contends}
use Rattle.lk_healing.specs.Feeds.{MayGain, RestsBut}

-- ---- rounds

-- a round is left below a bound if both are below it
pub round_low : (b : BallotValue) (k most : ℕ) → b.round < most → k < most → greater_round b k < most
round_low b k most promised seen = by_test (nat_lt b.round k)
  where
    by_test : (t : Bool) → cond t k b.round < most
    by_test true = seen
    by_test false = promised

pub promised_low : (b : BallotValue) (k most : ℕ) → greater_round b k < most → b.round < most
promised_low b k most low = by_test (nat_lt b.round k) refl low
  where
    by_test : (t : Bool) → nat_lt b.round k ≡ t → cond t k b.round < most → b.round < most
    by_test true is l = grind (arith, nat_tests, is, l)
    by_test false is l = l

pub rounds_low : (b : BallotValue) (k most : ℕ) → greater_round b k < most → k < most
rounds_low b k most low = by_test (nat_lt b.round k) refl low
  where
    by_test : (t : Bool) → nat_lt b.round k ≡ t → cond t k b.round < most → k < most
    by_test true is l = l
    by_test false is l = grind (arith, nat_tests, is, l)

-- ---- nodes

-- what it has executed and knows is the same, its votes are among the former ones, and so it stays if it is idle
pub record Stays (old new : NodeValue) : Type 0 where
  pub lasts : Lasts old new
  pub idle : old.leader.term ≡ None → new.leader.term ≡ None
  pub waiting : old.leader.waiting ≡ [] → new.leader.waiting ≡ []
  pub round : greatest_round old < 281474976710656 → greatest_round new < 281474976710656

lasts_itself : (node : NodeValue) → Lasts node node
lasts_itself node = record { whole = refl; pairs = refl; votes = λ v d. d; near = λ n. n }

lasts_trans : (a b c : NodeValue) → Lasts a b → Lasts b c → Lasts a c
lasts_trans a b c p q = record {
  whole = q.whole ∙ p.whole;
  pairs = q.pairs ∙ p.pairs;
  votes = λ v d. p.votes v (q.votes v d);
  near = λ n. q.near (p.near n);
}

lasts_snapshot : (node : NodeValue) → Lasts node (with_snapshot node)
lasts_snapshot node = record {
  whole = refl;
  pairs = refl;
  votes = λ v d. filter_from (λ (x : Vote). nat_lt (executed node.learner) x.position) node.acceptor.state.votes v d;
  near = near_snapshot node;
}

pub stays_itself : (node : NodeValue) → Stays node node
stays_itself node = record { lasts = lasts_itself node; idle = λ e. e; waiting = λ e. e; round = λ e. e }

pub stays_trans : (a b c : NodeValue) → Stays a b → Stays b c → Stays a c
stays_trans a b c p q = record {
  lasts = lasts_trans a b c p.lasts q.lasts;
  idle = λ e. q.idle (p.idle e);
  waiting = λ e. q.waiting (p.waiting e);
  round = λ e. q.round (p.round e);
}

pub stays_as : (old new : NodeValue) → new ≡ old → Stays old new
stays_as old new is = subst (Stays old) (sym is) (stays_itself old)

pub stays_found : (r : ReplicaValue) (start : NodeValue) → IsFound r start → Stays r.node start
stays_found r start found = found_has r start found (λ node. Stays r.node node)
    (λ s. record { lasts = lasts_snapshot r.node; idle = λ e. e; waiting = λ e. e; round = λ e. e })
    (stays_itself r.node)

-- ---- nodes of a world

module _ (m : Meaning) (IsText : List ℕ → Type 0) where
  member_still : (old new : WorldState ReplicaValue) (n : ℕ) → new.genesis ≡ old.genesis
      → is_member n old.genesis.members ≡ true → is_member n new.genesis.members ≡ true
  member_still old new n genesis member =
      subst (λ (g : Genesis). is_member n g.members ≡ true) (sym genesis) member

  -- the node is the same
  pub gains_same : (old new : WorldState ReplicaValue) (last n : ℕ) (r : ReplicaValue) → MayGain m IsText old last n r
      → Holds m IsText new → IsUpAs new n r → new.genesis ≡ old.genesis → MayGain m IsText new last n r
  gains_same old new last n r k holds up genesis = record {
    holds = holds;
    member = member_still old new n genesis k.member;
    up = up;
    idle = k.idle;
    waiting = k.waiting;
    known = k.known;
    near = k.near;
    within = k.within;
    pairs = k.pairs;
    votes = k.votes;
    round = k.round;
  }

  -- it has stayed
  pub gains_still : (old new : WorldState ReplicaValue) (last n : ℕ) (r q : ReplicaValue)
      → MayGain m IsText old last n r
      → Stays r.node q.node → Holds m IsText new → IsUpAs new n q → new.genesis ≡ old.genesis
      → MayGain m IsText new last n q
  gains_still old new last n r q k s holds up genesis = record {
    holds = holds;
    member = member_still old new n genesis k.member;
    up = up;
    idle = s.idle k.idle;
    waiting = s.waiting k.waiting;
    known = λ v c. k.known v (subst (λ (ps : List Pair). Contains ps (executed r.node.learner + 1, v)) s.lasts.pairs
        (subst (λ (w : WholeValue). Contains q.node.learner.pairs (w.roster.executed + 1, v)) s.lasts.whole c));
    near = s.lasts.near k.near;
    within = subst (λ (w : WholeValue). w.roster.executed ≤ last) (sym s.lasts.whole) k.within;
    pairs = subst (λ (ps : List Pair). (p : Pair) → Contains ps p → p.0 ≤ last) (sym s.lasts.pairs) k.pairs;
    votes = λ v c. k.votes v (s.lasts.votes v c);
    round = s.round k.round;
  }

  pub same_reach : (old new : NodeValue) → Stays old new → executed new.learner ≡ executed old.learner
  same_reach old new s = ap (λ (w : WholeValue). w.roster.executed) s.lasts.whole

  -- it contends by itself
  pub gains_contend : (w : WorldState ReplicaValue) (last n : ℕ) (r : ReplicaValue) → MayGain m IsText w last n r
      → Contends m IsText w n (executed r.node.learner) (executed r.node.learner) [] last
  gains_contend w last n r k = record {
    holds = k.holds;
    candidate = r;
    up = k.up;
    reach = refl;
    idle = k.idle;
    waiting = k.waiting;
    known = k.known;
    near = k.near;
    pairs = k.pairs;
    votes = k.votes;
    others_may = λ j c. absurd (omega (arith, c.1));
    distinct = (λ c. absurd (omega (arith, c.1)), tt);
  }

  pub gains_lag : (w : WorldState ReplicaValue) (last n : ℕ) (r : ReplicaValue) → MayGain m IsText w last n r
      → MayLag w last n
  gains_lag w last n r k = record {
    replica = r;
    up = k.up;
    near = k.near;
    within = k.within;
    pairs = k.pairs;
    votes = k.votes;
  }

  -- and so may it with another one
  pub two_contend : (w : WorldState ReplicaValue) (last n j : ℕ) (r q : ReplicaValue) → (n ≡ j → ⊥)
      → MayGain m IsText w last n r → MayGain m IsText w last j q
      → MayContend m IsText w n (executed r.node.learner) (j ∷ []) last
  two_contend w last n j r q apart k l = record {
    candidate = gains_contend w last n r k;
    within = k.within;
    others_lag = λ i c. subst (MayLag w last) (sym (only_one j i c)) (gains_lag w last j q l);
    distinct = (λ c. apart (only_one j n c), (λ c. absurd (omega (arith, c.1)), tt));
  }
    where
      only_one : (i k : ℕ) → Contains (i ∷ []) k → k ≡ i
      only_one i k c = sym (only i k c)

-- ---- what rests

pub rests_itself : (b a : ℕ) (w : WorldState ReplicaValue) → RestsBut b a w w
rests_itself b a w = record { rests = λ k run_state p q c. c; sent = λ d c. c; asked = refl; genesis = refl }

pub rests_both : (b a : ℕ) (old mid new : WorldState ReplicaValue) → RestsBut b a old mid → RestsBut b a mid new
    → RestsBut b a old new
rests_both b a old mid new p q = record {
  rests = λ k run_state x y c. q.rests k run_state x y (p.rests k run_state x y c);
  sent = λ d c. q.sent d (p.sent d c);
  asked = q.asked ∙ p.asked;
  genesis = q.genesis ∙ p.genesis;
}
