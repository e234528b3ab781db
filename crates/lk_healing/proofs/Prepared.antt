-- A candidate that has begun a ballot takes its own Prepare, and rounds stay below a limit.
use Rattle.std.proofs.Common.{◌≡◌, ◌∙◌, inl, inr, ℕ, ◌+◌, ◌<◌, ◌≤◌, max, Bool, true, false, cond, List, []}
use Rattle.std.proofs.Common.{Some, nat_lt, eqb, refl, ap, sym, subst, arith}
use Rattle.std.proofs.lemmas.Bool.{cases_Bool, eq-eqb}
use Rattle.std.proofs.lemmas.Bool.Decides.{nat_tests}
use Rattle.lk_types.specs.BallotValue.{BallotValue}
use Rattle.lk_types.specs.Ballots.{IsBelow, is_below}
use Rattle.lk_messages.specs.declared.message.Content.TheVariants as content
use Rattle.lk_messages.specs.declared.message.NodeMessage.{NodeMessage}
use Rattle.lk_messages.specs.declared.message.NodeMessage.TheVariants as kinds
use Rattle.lk_state.specs.Meanings.{Meaning}
use Rattle.lk_acceptor.specs.AcceptorValue.{AcceptorValue}
use Rattle.lk_leader.specs.Terms.{LeaderValue, begun, is_term_below}
use Rattle.lk_leader.specs.Values.{is_changing_at}
use Rattle.lk_learner.specs.Learners.{LearnerValue, executed}
use Rattle.lk_node_interface.specs.Grants.{is_granted}
use Rattle.lk_node_interface.specs.Outboxes.{OutboxValue}
use Rattle.lk_node_interface.specs.Rounds.{greater_round}
use Rattle.lk_node.specs.NodeValue.{NodeValue}
use Rattle.lk_node.specs.Responding.{replied, with_acceptor}
use Rattle.lk_node.specs.Yielding.{seeing, without_term, with_round, yielded}
use Rattle.lk_progress.proofs.Quiet.{proposes_nothing}
use Rattle.lk_progress.proofs.Rejecting.{keeps_leader}
use Rattle.lk_progress.specs.Hearing.{Takes}
use Rattle.lk_rebases.proofs.Rebases.{HasSame, Handled, handled, proposed_same, taken_learner}
use Rattle.lk_replica.specs.ReplicaValue.{ReplicaValue}
use Rattle.lk_world_progress.proofs.Balloting.{found_has}
use Rattle.lk_world_progress.proofs.Overtaking.{promised_is, responds}
use Rattle.lk_world_progress.specs.Stepping.{IsFound}

-- ---- rounds

pub seen_round : (b : BallotValue) (seen : ℕ) → seen ≤ greater_round b seen
seen_round b seen =
    elim (cases_Bool (nat_lt b.round seen)) [
      | inl t ↦ rw t (omega arith)
      | inr f ↦ rw f (grind (arith, nat_tests))
    ]

pub both_below : (b : BallotValue) (seen top : ℕ) → b.round < top → seen < top → greater_round b seen < top
both_below b seen top one two =
    elim (cases_Bool (nat_lt b.round seen)) [ inl t ↦ rw t two | inr f ↦ rw f one ]

pub not_above : (b c : BallotValue) → IsBelow b c → b.round ≤ c.round
not_above b c (inl less) = omega (arith, less)
not_above b c (inr same) = omega (arith, same.0)

pub below_test : (a b : BallotValue) → IsBelow a b → is_below a b ≡ true
below_test a b (inl less) =
    let t : nat_lt a.round b.round ≡ true = grind (arith, nat_tests) in rw t refl
below_test a b (inr equal) =
    let f : nat_lt a.round b.round ≡ false = grind (arith, nat_tests) in
    let s : eqb a.round b.round ≡ true = eq-eqb a.round b.round equal.0 in
    let t : nat_lt a.node b.node ≡ true = grind (arith, nat_tests) in
    rw (f, s, t) refl

pub within : (a b c : ℕ) → a ≤ b → b < c → a < c
within a b c le lt = omega (arith, le, lt)

max_below : (a b top : ℕ) → a < top → b < top → max a b < top
max_below a b top one two = omega (arith, one, two)

-- recording a ballot keeps the acceptor, and rounds below the top
pub seen_within : (b : BallotValue) (node : NodeValue) (top : ℕ) → node.rounds < top → b.round < top
    → ((seeing b node).acceptor ≡ node.acceptor) × ((seeing b node).rounds < top)
seen_within b node top one two = by_test (is_term_below b node.leader.term)
  where
    by_test : (t : Bool)
        → ((cond t (without_term (with_round b node)) (with_round b node)).acceptor ≡ node.acceptor)
        × ((cond t (without_term (with_round b node)) (with_round b node)).rounds < top)
    by_test true = (refl, max_below node.rounds b.round top one two)
    by_test false = (refl, max_below node.rounds b.round top one two)

pub replied_rounds : (reply : NodeMessage) (node : NodeValue) → (replied reply node).rounds ≡ node.rounds
replied_rounds reply node = by_test (is_granted reply)
  where
    by_term : (x : NodeValue) (t : Bool) → (cond t (without_term x) x).rounds ≡ x.rounds
    by_term x true = refl
    by_term x false = refl

    by_test : (t : Bool) → (yielded node.acceptor.state.promised (cond t (record node { ticks = 0 }) node)).rounds
        ≡ node.rounds
    by_test true = by_term (record node { ticks = 0 })
        (is_term_below node.acceptor.state.promised node.leader.term)
    by_test false = by_term node (is_term_below node.acceptor.state.promised node.leader.term)

-- ---- a candidate that takes its own Prepare

-- it has begun a ballot, in which nothing is promised or proposed, and nothing waits
pub record HasBegun (b : BallotValue) (seen : ℕ) (node : NodeValue) : Type 0 where
  pub term : node.leader.term ≡ Some (begun b)
  pub waiting : node.leader.waiting ≡ []
  pub promised : node.acceptor.state.promised ≡ b
  pub rounds : node.rounds ≡ seen
  pub unchanged : is_changing_at node.learner.whole.roster (executed node.learner + 1) ≡ false

pub begun_found : (b : BallotValue) (seen : ℕ) (r : ReplicaValue) (node : NodeValue) → IsFound r node
    → HasBegun b seen r.node → HasBegun b seen node
begun_found b seen r node found h = found_has r node found (HasBegun b seen)
    (λ k. record {
      term = k.term;
      waiting = k.waiting;
      promised = k.promised;
      rounds = k.rounds;
      unchanged = k.unchanged;
    }) h

module _ (m : Meaning) (IsText : List ℕ → Type 0) (b : BallotValue) (seen x first : ℕ) (old new : NodeValue)
    (out : OutboxValue) (has : HasBegun b seen old)
    (takes : Takes m IsText old (content.Node x (kinds.Prepare b first)) new out) where
  h : Handled m IsText old (content.Node x (kinds.Prepare b first)) new out
  h = handled m IsText old (content.Node x (kinds.Prepare b first)) new out takes

  same : HasSame h.mid new
  same = proposed_same h.proposes.0 h.mid new h.first out h.proposes.1

  promised : new.acceptor.state.promised ≡ b
  promised = elim (promised_is m IsText old new x b first out h) [ inl e ↦ e | inr e ↦ e ∙ has.promised ]

  mid_leader : h.mid.leader ≡ old.leader
  mid_leader = keeps_leader old h.mid x _ h.first h.handles (begun b) has.term
      (ap (λ (a : AcceptorValue). a.state.promised) (sym same.acceptor) ∙ promised)

  new_learner : new.learner ≡ old.learner
  new_learner = taken_learner m IsText (content.Node x (kinds.Prepare b first)) old new out tt takes

  nothing_proposed : new ≡ h.mid
  nothing_proposed = proposes_nothing h.mid new h.first out (begun b) h.proposes
      (ap (λ (l : LeaderValue). l.term) mid_leader ∙ has.term)
      (ap (λ (l : LeaderValue). l.waiting) mid_leader ∙ has.waiting) (λ q d. absurd (omega (arith, d.1)))
      (subst (λ (l : LearnerValue). is_changing_at l.whole.roster (executed l + 1) ≡ false)
      (sym (sym same.learner ∙ new_learner)) has.unchanged)

  mid_rounds : h.mid.rounds ≡ old.rounds
  mid_rounds =
      let r = responds m IsText old new x b first out h in
      ap (λ (n : NodeValue). n.rounds) r.becomes ∙ replied_rounds r.response.reply (with_acceptor old r.acceptor)

  pub still_begun : HasBegun b seen new
  still_begun = record {
    term = ap (λ (n : NodeValue). n.leader.term) nothing_proposed ∙ ap (λ (l : LeaderValue). l.term) mid_leader
        ∙ has.term;
    waiting = ap (λ (n : NodeValue). n.leader.waiting) nothing_proposed
        ∙ ap (λ (l : LeaderValue). l.waiting) mid_leader ∙ has.waiting;
    promised = promised;
    rounds = same.rounds ∙ mid_rounds ∙ has.rounds;
    unchanged = subst (λ (l : LearnerValue). is_changing_at l.whole.roster (executed l + 1) ≡ false)
        (sym new_learner) has.unchanged;
  }
