-- What rejections leave of a node, and which nodes contend for answering a request.
use Rattle.std.proofs.Common.{◌≡◌, ◌∙◌, inl, inr, ℕ, ◌+◌, ◌*◌, ◌≤◌, Bool, true, false, cond, List, [], None}
use Rattle.std.proofs.Common.{length, Contains, nat_lt, refl, ap, sym, subst, arith}
use Rattle.lk_types.specs.BallotValue.{BallotValue}
use Rattle.lk_types.specs.declared.vote.Vote.{Vote}
use Rattle.lk_messages.specs.declared.message.Content.TheVariants as content
use Rattle.lk_messages.specs.declared.message.Nack.{Nack}
use Rattle.lk_messages.specs.declared.message.NodeMessage.TheVariants as kinds
use Rattle.lk_agreement_laws.proofs.Histories.{filter_from}
use Rattle.lk_state.specs.Meanings.{Meaning}
use Rattle.lk_state.specs.States.{WholeValue}
use Rattle.lk_acceptor.specs.AcceptorValue.{AcceptorValue}
use Rattle.lk_leader.specs.Terms.{is_term_below}
use Rattle.lk_learner.specs.Learners.{LearnerValue, Pair, executed}
use Rattle.lk_node_interface.specs.Outboxes.{OutboxValue}
use Rattle.lk_node.specs.Beginning.{next_ballot}
use Rattle.lk_node.specs.Executing.{NothingToRun}
use Rattle.lk_node.specs.Nearness.{AreNear}
use Rattle.lk_node.specs.NewBases.{with_snapshot}
use Rattle.lk_node.specs.NodeValue.{NodeValue}
use Rattle.lk_node.specs.Yielding.{seeing, with_round, without_term}
use Rattle.lk_progress.proofs.Proposing.{goes_on_waiting}
use Rattle.lk_progress.specs.Beginnings.{NewClustersAreQuiet, StartsQuietly, new_node}
use Rattle.lk_progress.specs.Exchanges.{IsQuietVoter}
use Rattle.lk_progress.specs.Hearing.{Takes}
use Rattle.lk_rebases.proofs.Rebases.{Handled, HasSame, handled, proposed_same, taken_learner}
use Rattle.lk_replica.specs.ReplicaValue.{ReplicaValue}
use Rattle.lk_sim.specs.WorldStates.{WorldState}
use Rattle.lk_world_progress.proofs.Balloting.{found_has, near_snapshot}
use Rattle.lk_world_progress.proofs.Overtaking.{new_acceptor, responds}
use Rattle.lk_world_progress.specs.Beginning.{IsNewWorld}
use Rattle.lk_world_progress.specs.Exchanging.{number_of}
use Rattle.lk_world_progress.specs.Stepping.{Holds, IsFound, IsUpAs}
pub use Rattle.lk_world_leftovers.specs.Lagging.{Lasts}
use Rattle.lk_world_leftovers.specs.Persisting.{Contends, MayVote, NewWorldsContend, VotesUpTo}

-- ---- what lasts

pub lasts_trans : (a b c : NodeValue) → Lasts a b → Lasts b c → Lasts a c
lasts_trans a b c p q = record {
  whole = q.whole ∙ p.whole;
  pairs = q.pairs ∙ p.pairs;
  votes = λ v d. p.votes v (q.votes v d);
  near = λ n. q.near (p.near n);
}

pub lasts_itself : (node : NodeValue) → Lasts node node
lasts_itself node = record { whole = refl; pairs = refl; votes = λ v d. d; near = λ n. n }

pub lasts_snapshot : (node : NodeValue) → Lasts node (with_snapshot node)
lasts_snapshot node = record {
  whole = refl;
  pairs = refl;
  votes = λ v d. filter_from (λ (x : Vote). nat_lt (executed node.learner) x.position) node.acceptor.state.votes v d;
  near = near_snapshot node;
}

pub lasts_found : (r : ReplicaValue) (start : NodeValue) → IsFound r start → Lasts r.node start
lasts_found r start found =
    found_has r start found (λ node. Lasts r.node node) (λ l. lasts_snapshot r.node) (lasts_itself r.node)

-- the same learner, and an acceptor that has promised something else at most
pub lasts_promise : (old new : NodeValue) (b : BallotValue) → new.learner ≡ old.learner
    → new.acceptor ≡ record old.acceptor { state = record old.acceptor.state { promised = b } } → Lasts old new
lasts_promise old new b learner acceptor = record {
  whole = ap (λ (l : LearnerValue). l.whole) learner;
  pairs = ap (λ (l : LearnerValue). l.pairs) learner;
  votes = λ v d. subst (λ (a : AcceptorValue). Contains a.state.votes v) acceptor d;
  near = λ n. subst (λ (l : LearnerValue). AreNear new.acceptor l) (sym learner)
      (subst (λ (a : AcceptorValue). AreNear a old.learner) (sym acceptor)
      (record { alpha_is = n.alpha_is; snapshot = n.snapshot; votes = n.votes }));
}

-- ---- a rejection

seen_keeps : (b : BallotValue) (node : NodeValue)
    → ((seeing b node).acceptor ≡ node.acceptor) × ((seeing b node).learner ≡ node.learner)
    × (node.leader.waiting ≡ [] → (seeing b node).leader.waiting ≡ [])
seen_keeps b node = by_test (is_term_below b node.leader.term)
  where
    by_test : (t : Bool)
        → ((cond t (without_term (with_round b node)) (with_round b node)).acceptor ≡ node.acceptor)
        × ((cond t (without_term (with_round b node)) (with_round b node)).learner ≡ node.learner)
        × (node.leader.waiting ≡ []
        → (cond t (without_term (with_round b node)) (with_round b node)).leader.waiting ≡ [])
    by_test true = (refl, refl, λ e. refl)
    by_test false = (refl, refl, λ e. e)

-- and after both ballots of a rejection
seen_after : (c : BallotValue) (first node : NodeValue) → first.acceptor ≡ node.acceptor
    → first.learner ≡ node.learner → (node.leader.waiting ≡ [] → first.leader.waiting ≡ [])
    → ((seeing c first).acceptor ≡ node.acceptor) × ((seeing c first).learner ≡ node.learner)
    × (node.leader.waiting ≡ [] → (seeing c first).leader.waiting ≡ [])
seen_after c first node acceptor learner waiting =
    let k = seen_keeps c first in
    (k.0 ∙ acceptor, k.1 ∙ learner, λ e. k.2 (waiting e))

module _ (m : Meaning) (IsText : List ℕ → Type 0) where
  pub nack_lasts : (old new : NodeValue) (from : ℕ) (nack : Nack) (out : OutboxValue)
      → Takes m IsText old (content.Node from (kinds.Nack nack)) new out
      → Lasts old new × (old.leader.waiting ≡ [] → new.leader.waiting ≡ [])
  nack_lasts old new from nack out takes =
      by_handled (handled m IsText old (content.Node from (kinds.Nack nack)) new out takes)
    where
      twice : ((seeing nack.promised (seeing nack.ballot old)).acceptor ≡ old.acceptor)
          × ((seeing nack.promised (seeing nack.ballot old)).learner ≡ old.learner)
          × (old.leader.waiting ≡ [] → (seeing nack.promised (seeing nack.ballot old)).leader.waiting ≡ [])
      twice =
          let k = seen_keeps nack.ballot old in
          seen_after nack.promised (seeing nack.ballot old) old k.0 k.1 k.2

      by_handled : Handled m IsText old (content.Node from (kinds.Nack nack)) new out
          → Lasts old new × (old.leader.waiting ≡ [] → new.leader.waiting ≡ [])
      by_handled h =
          let same : HasSame h.mid new = proposed_same h.proposes.0 h.mid new h.first out h.proposes.1 in
          let becomes : h.mid ≡ seeing nack.promised (seeing nack.ballot old) = h.handles.0 in
          let acceptor : new.acceptor ≡ old.acceptor =
          same.acceptor ∙ ap (λ (n : NodeValue). n.acceptor) becomes ∙ twice.0 in
          let learner : new.learner ≡ old.learner =
          same.learner ∙ ap (λ (n : NodeValue). n.learner) becomes ∙ twice.1 in (
            lasts_promise old new old.acceptor.state.promised learner acceptor,
            λ e. goes_on_waiting h.proposes.0 h.mid new h.first out h.proposes.1
                ∙ ap (λ (n : NodeValue). n.leader.waiting) becomes ∙ twice.2 e,
          )

  -- ---- a Prepare

  pub prepare_lasts : (old new : NodeValue) (from : ℕ) (b : BallotValue) (position : ℕ) (out : OutboxValue)
      → Takes m IsText old (content.Node from (kinds.Prepare b position)) new out → Lasts old new
  prepare_lasts old new from b position out takes =
      by_handled (handled m IsText old (content.Node from (kinds.Prepare b position)) new out takes)
    where
      learner : new.learner ≡ old.learner
      learner = taken_learner m IsText (content.Node from (kinds.Prepare b position)) old new out tt takes

      by_handled : Handled m IsText old (content.Node from (kinds.Prepare b position)) new out → Lasts old new
      by_handled h =
          let is : new.acceptor ≡ (responds m IsText old new from b position out h).acceptor =
          new_acceptor m IsText old new from b position out h in
          elim (responds m IsText old new from b position out h).given [
            | inl granted ↦ lasts_promise old new b learner (is ∙ granted.1.state)
            | inr refused ↦ lasts_promise old new old.acceptor.state.promised learner (is ∙ refused.1.state)
          ]

-- ---- what that leaves of those that take part

pub may_vote : (old new : WorldState ReplicaValue) (top last n : ℕ) (k : MayVote old top last n) (q : ReplicaValue)
    → IsUpAs new n q → Lasts k.replica.node q.node → MayVote new top last n
may_vote old new top last n k q up l = record {
  replica = q;
  up = up;
  near = l.near k.near;
  behind = subst (λ (w : WholeValue). w.roster.executed ≤ top) (sym l.whole) k.behind;
  reaches = subst (λ (w : WholeValue). last ≤ w.roster.executed + 2 * length w.roster.sets) (sym l.whole) k.reaches;
  pairs = subst (λ (ps : List Pair). (p : Pair) → Contains ps p → p.0 ≤ last) (sym l.pairs) k.pairs;
  votes = λ v c. k.votes v (l.votes v c);
}

pub still_contends : (m : Meaning) (IsText : List ℕ → Type 0) (old new : WorldState ReplicaValue) (x e top : ℕ)
    (others : List ℕ)
    (last : ℕ) (k : Contends m IsText old x e top others last) (q : ReplicaValue) → Holds m IsText new → IsUpAs new x q
    → Lasts k.candidate.node q.node → q.node.leader.term ≡ None → q.node.leader.waiting ≡ []
    → ((n : ℕ) → Contains others n → MayVote new top last n) → Contends m IsText new x e top others last
still_contends m IsText old new x e top others last k q holds up l idle waiting may = record {
  holds = holds;
  candidate = q;
  up = up;
  reach = ap (λ (w : WholeValue). w.roster.executed) l.whole ∙ k.reach;
  idle = idle;
  waiting = waiting;
  known = λ v c. k.known v (subst (λ (ps : List Pair). Contains ps (executed k.candidate.node.learner + 1, v)) l.pairs
      (subst (λ (w : WholeValue). Contains q.node.learner.pairs (w.roster.executed + 1, v)) l.whole c));
  near = l.near k.near;
  pairs = subst (λ (ps : List Pair). (p : Pair) → Contains ps p → p.0 ≤ last) (sym l.pairs) k.pairs;
  votes = λ v c. k.votes v (l.votes v c);
  others_may = may;
  distinct = k.distinct;
}

-- ---- a new cluster

module _ (m : Meaning) (IsText : List ℕ → Type 0) (w : WorldState ReplicaValue) (c : ReplicaValue) (index ticks : ℕ)
    (others : List ℕ) (new : IsNewWorld m IsText w c index ticks others)
    (quiet : StartsQuietly m w.genesis (number_of c) ticks) where
  abbrev own : NodeValue
  own = new_node m w.genesis (number_of c) ticks

  nothing_executed : executed own.learner ≤ 0
  nothing_executed = (quiet.others (number_of c) ticks).behind

  on_own : (P : NodeValue → Type 0) → P own → P c.node
  on_own P p = subst P (sym new.new.1) p

  new_contends : Contends m IsText w (number_of c) 0 0 others 0
  new_contends = record {
    holds = new.holds;
    candidate = c;
    up = new.new.0;
    reach = on_own (λ node. executed node.learner ≡ 0) (omega (arith, nothing_executed));
    idle = on_own (λ node. node.leader.term ≡ None) refl;
    waiting = on_own (λ node. node.leader.waiting ≡ []) refl;
    known = on_own NothingToRun quiet.candidate.known;
    near = on_own (λ node. AreNear node.acceptor node.learner) quiet.candidate.near;
    pairs = on_own (λ node. (p : Pair) → Contains node.learner.pairs p → p.0 ≤ 0) (λ p d. absurd (omega (arith, d.1)));
    votes = on_own (λ node. VotesUpTo node 0) (quiet.others (number_of c) ticks).votes;
    others_may = λ n d.
        let v = new.voters n d in
        let is : IsQuietVoter (new_node m w.genesis n v.1) (next_ballot own) 0 = quiet.others n v.1 in
        record {
          replica = v.0;
          up = v.2.0;
          near = subst (λ (node : NodeValue). AreNear node.acceptor node.learner) (sym v.2.1) is.near;
          behind = subst (λ (node : NodeValue). executed node.learner ≤ 0) (sym v.2.1) is.behind;
          reaches = omega arith;
          pairs = subst (λ (node : NodeValue). (p : Pair) → Contains node.learner.pairs p → p.0 ≤ 0) (sym v.2.1)
              (λ p c. absurd (omega (arith, c.1)));
          votes = subst (λ (node : NodeValue). VotesUpTo node 0) (sym v.2.1) is.votes;
        };
    distinct = new.distinct;
  }

pub new_worlds_contend : (m : Meaning) (IsText : List ℕ → Type 0) → NewClustersAreQuiet → NewWorldsContend m IsText
new_worlds_contend m IsText law w c index ticks others new =
    new_contends m IsText w c index ticks others new (law m w.genesis (number_of c) index ticks new.due)
