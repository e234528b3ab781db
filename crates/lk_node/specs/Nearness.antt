-- The invariant between a node's acceptor and its learner.
use Rattle.std.specs.Prelude.{◌≡◌, ◌≤◌, ◌+◌, ◌*◌, Contains}
use Rattle.lk_agreement_laws.specs.Datagrams.{Vote}
use Rattle.lk_acceptor.specs.AcceptorValue.{AcceptorValue}
use Rattle.lk_learner.specs.Learners.{LearnerValue, executed, alpha}

-- they know the members equally far ahead, the learner has executed the acceptor's snapshot, and no vote is more than
-- twice alpha above what is executed
pub record AreNear (acceptor : AcceptorValue) (l : LearnerValue) : Type 0 where
  pub alpha_is : acceptor.alpha ≡ alpha l
  pub snapshot : acceptor.state.snapshot_position ≤ executed l
  pub votes : (v : Vote) → Contains acceptor.state.votes v → v.position ≤ executed l + 2 * alpha l
