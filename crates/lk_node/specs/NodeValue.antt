-- What a contract sees of a node.
use Rattle.std.specs.Prelude.{ℕ, Bool, Option}
use Rattle.lk_store_format.specs.Values.{HeaderValue}
use Rattle.lk_acceptor.specs.AcceptorValue.{AcceptorValue}
use Rattle.lk_leader.specs.Terms.{LeaderValue}
use Rattle.lk_learner.specs.Learners.{LearnerValue}

-- its number and the genesis of its cluster, what its acceptor, its learner and its leader hold, how many ticks have
-- passed without a leader, the greatest round that it has seen of others, the node that it takes for the leader, how
-- many bytes of a snapshot were gathered at its last nudge, but for those of the reason Fed, and whether it has halted
pub record NodeValue : Type 0 where
  pub header : HeaderValue
  pub acceptor : AcceptorValue
  pub learner : LearnerValue
  pub leader : LeaderValue
  pub ticks : ℕ
  pub rounds : ℕ
  pub known : Option ℕ
  pub gathered_before : ℕ
  pub halted : Bool
