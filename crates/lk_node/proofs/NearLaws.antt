-- An acceptor and a learner of one node stay near each other.
use Rattle.std.proofs.Common.{◌≡◌, ℕ, ◌+◌, ◌*◌, ◌≤◌, inl, inr, Bool, true, false, List, [], ◌∷◌, ltb, ◌&&◌, length}
use Rattle.std.proofs.Common.{Contains, Option, Some, None, refl, sym, ◌∙◌, ap, subst, arith}
use Rattle.lk_types.specs.BallotValue.{BallotValue}
use Rattle.lk_types.specs.Limits.{max_base_of}
use Rattle.lk_types.specs.declared.vote.Vote.{Vote}
use Rattle.lk_agreement_laws.specs.Acceptors.{AcceptorState}
use Rattle.lk_agreement_laws.specs.Changes.{with_promise}
use Rattle.lk_store_format.specs.Entries.{are_pairs_above}
use Rattle.lk_log.proofs.Room.{base_within}
use Rattle.lk_log.specs.Stores.{FitsBase, base_room}
use Rattle.lk_state.specs.Meanings.{Meaning}
use Rattle.lk_state.specs.Packed.{packed}
use Rattle.lk_acceptor.specs.AcceptorValue.{AcceptorValue}
use Rattle.lk_acceptor.specs.Replies.{RepliesToPrepare, RepliesToAccept}
use Rattle.lk_acceptor.specs.States.{IsAcceptor, without_votes_to, with_state}
use Rattle.lk_acceptor.specs.VoteLists.{votes_above}
use Rattle.lk_acceptor.specs.declared.response.Response.{Response}
use Rattle.lk_acceptor.proofs.Acceptors.{rising_count, above_rises, from_with, takes_snapshot}
use Rattle.lk_learner.specs.Learners.{Command, Pair, LearnerValue, IsLearner, executed, alpha, keeping, advanced}
use Rattle.lk_learner.specs.Learners.{with_snapshot}
use Rattle.lk_learner.specs.Pairs as pairs
use Rattle.lk_learner.proofs.Learnerships.{ran_moves, kept_few}
use Rattle.lk_node.specs.Executing.{RunsNext}
use Rattle.lk_node.specs.Learning.{with_learner}
use Rattle.lk_node.specs.Nearness.{AreNear}
use Rattle.lk_node.specs.NodeValue.{NodeValue}
use Rattle.lk_node.specs.NewBases.{standing_of}
use Rattle.lk_state.specs.declared.whole.Ran.{Ran}

-- the same votes, or some of them
few_near : (a : AcceptorValue) (s : AcceptorState) (l : LearnerValue) → AreNear a l → s.snapshot_position ≤ executed l
    → ((v : Vote) → Contains s.votes v → Contains a.state.votes v) → AreNear (with_state a s) l
few_near a s l n within few = record { alpha_is = n.alpha_is; snapshot = within; votes = λ v c. n.votes v (few v c) }

pub own_near : (a new : AcceptorValue) (l : LearnerValue) (b : BallotValue) → AreNear a l
    → new ≡ with_state a (with_promise a.state b) → AreNear new l
own_near a new l b n is =
    subst (λ (x : AcceptorValue). AreNear x l) (sym is) (few_near a (with_promise a.state b) l n n.snapshot (λ v c. c))

pub prepare_near : (a new : AcceptorValue) (l : LearnerValue) (e : ℕ) (b : BallotValue) (first : ℕ) (r : Response)
    → AreNear a l → RepliesToPrepare a e b first r new → AreNear new l
prepare_near a new l e b first r n (inl grants) = own_near a new l b n grants.1.state
prepare_near a new l e b first r n (inr refuses) = subst (λ (x : AcceptorValue). AreNear x l) (sym refuses.1.state) n

pub accept_near : (a new : AcceptorValue) (l : LearnerValue) (e : ℕ) (x : Vote) (r : Response) → AreNear a l
    → e ≡ executed l → RepliesToAccept a e x r new → AreNear new l
accept_near a new l e x r n at (inl grants) = subst (λ (k : AcceptorValue). AreNear k l) (sym grants.1.state) (record {
  alpha_is = n.alpha_is;
  snapshot = n.snapshot;
  votes = λ v c. elim (from_with x a.state.votes v c) [
    | inl same ↦
        subst (λ (k : Vote). k.position ≤ executed l + 2 * alpha l) same (omega (arith, grants.0.near, at, n.alpha_is))
    | inr old ↦ n.votes v old
  ];
})
accept_near a new l e x r n at (inr refuses) = subst (λ (k : AcceptorValue). AreNear k l) (sym refuses.1.state) n

pub decided_near : (a : AcceptorValue) (l new : LearnerValue) (p : Pair) (kept : Bool) → AreNear a l
    → (kept ≡ true → new ≡ keeping p l) → (kept ≡ false → new ≡ l) → AreNear a new
decided_near a l new p true n is same =
    subst (AreNear a) (sym (is refl)) (record { alpha_is = n.alpha_is; snapshot = n.snapshot; votes = n.votes })
decided_near a l new p false n is same = subst (AreNear a) (sym (same refl)) n

pub advanced_near : (m : Meaning) (a : AcceptorValue) (l : LearnerValue) (v : Command) → IsLearner l → AreNear a l
    → AreNear a (advanced m v l)
advanced_near m a l v fits n =
    let moves = ran_moves m v l.whole fits.window.0 in
    record {
      alpha_is = n.alpha_is ∙ sym moves.1;
      snapshot = omega (arith, n.snapshot, moves.0);
      votes = λ w c. omega (arith, n.votes w c, moves.0, moves.1);
    }

pub runs_near : (m : Meaning) (a : AcceptorValue) (was : NodeValue) (new : LearnerValue) (r : Option (Command × Ran))
    → IsLearner was.learner → AreNear a was.learner → RunsNext m was (with_learner was new) r → AreNear a new
runs_near m a was new None fits n k = subst (AreNear a) (sym (ap (λ (x : NodeValue). x.learner) k.1)) n
runs_near m a was new (Some went) fits n k =
    subst (AreNear a) (sym (ap (λ (x : NodeValue). x.learner) k.1)) (advanced_near m a was.learner went.0 fits n)

pub here_near : (a new : AcceptorValue) (l after : LearnerValue) (e : ℕ) → AreNear a l → e ≡ executed l
    → new ≡ with_state a (without_votes_to a.state e) → after ≡ with_snapshot l → AreNear new after
here_near a new l after e n at is become =
    subst (λ (x : AcceptorValue). AreNear x after) (sym is)
    (subst (AreNear (with_state a (without_votes_to a.state e))) (sym become) (record {
      alpha_is = n.alpha_is;
      snapshot = omega (arith, at);
      votes = λ v c. n.votes v ((takes_snapshot a.state e (omega (arith, n.snapshot, at))).only v c);
    }))

-- two words for one test
pub same_above : (low : ℕ) (ps : List Pair) → pairs.are_pairs_above low ps ≡ are_pairs_above low ps
same_above low [] = refl
same_above low (p ∷ ps) = ap (λ (t : Bool). ltb low p.0 && t) (same_above p.0 ps)

-- above what is executed lie at most twice alpha votes
few_above : (node : NodeValue) → IsAcceptor node.acceptor → AreNear node.acceptor node.learner
    → length (votes_above (executed node.learner) node.acceptor.state.votes) ≤ 2 * alpha node.learner
few_above node a n =
    let subset = (takes_snapshot node.acceptor.state (executed node.learner) n.snapshot).only in
    rising_count (executed node.learner) (2 * alpha node.learner)
    (votes_above (executed node.learner) node.acceptor.state.votes)
    (above_rises node.acceptor.state.snapshot_position
    (executed node.learner) node.acceptor.state.votes a.kept.rising) (λ v c. n.votes v (subset v c))

-- what a node holds above what it has executed fits into a Base
pub may_begin : (node : NodeValue) → IsAcceptor node.acceptor → IsLearner node.learner
    → AreNear node.acceptor node.learner → 1 ≤ length (packed node.learner.whole)
    → length (packed node.learner.whole) ≤ 38782
    → FitsBase (standing_of node)
may_begin node a l n some room = record {
  some = some;
  room = omega (arith, room);
  few_votes = omega (arith, few_above node a n, l.window.1);
  votes_rise =
      above_rises node.acceptor.state.snapshot_position (executed node.learner) node.acceptor.state.votes a.kept.rising;
  few_pairs = let few = kept_few (executed node.learner) (alpha node.learner) node.learner.pairs l.kept in
      omega (arith, few, l.window.1);
  pairs_rise = sym (same_above (executed node.learner) node.learner.pairs) ∙ l.kept.rising;
}

-- and that Base is no longer than one of this alpha may be
pub base_short : (node : NodeValue) → IsAcceptor node.acceptor → IsLearner node.learner
    → AreNear node.acceptor node.learner
    → length (packed node.learner.whole) ≤ 36030 + 43 * alpha node.learner
    → base_room (standing_of node) ≤ max_base_of node.acceptor.alpha
base_short node a l n room =
    let votes = few_above node a n in
    let pairs = kept_few (executed node.learner) (alpha node.learner) node.learner.pairs l.kept in
    base_within node.acceptor.alpha (base_room (standing_of node)) (omega (arith, n.alpha_is, l.window.1))
    (omega (arith, room, votes, pairs, n.alpha_is))
