-- A summary of a replica's state, for the log and the events of its server.
use Rattle.std.specs.Prelude.{◌≡◌}
use Rattle.std.specs.Option.{option_map}
use Rattle.lk_learner.specs.Learners.{gathered_bytes}
use Rattle.lk_replica.specs.ReplicaValue.{ReplicaValue}
use Rattle.lk_server_replica.specs.declared.replica_status.ReplicaStatus.{ReplicaStatus}

-- each field has the replica's value
pub record IsStatusOf (r : ReplicaValue) (s : ReplicaStatus) : Type 0 where
  pub generation : s.generation ≡ r.store.generation
  pub snapshot : s.snapshot ≡ r.node.acceptor.state.snapshot_position
  pub executed : s.executed ≡ r.node.learner.whole.roster.executed
  pub gathered : s.gathered ≡ gathered_bytes r.node.learner.gathered
  pub term : s.term ≡ option_map (λ t. t.ballot) r.node.leader.term
  pub known : s.known ≡ r.node.known
  pub silence : s.silence ≡ r.node.ticks
