-- What a contract sees of the only member of a cluster.
use Rattle.std.specs.Prelude.{ℕ, List}
use Rattle.lk_store_format.specs.Values.{HeaderValue}
use Rattle.lk_node.specs.Histories.{Datagram}
use Rattle.lk_replica.specs.ReplicaValue.{ReplicaValue}

-- whose it is, its replica, the envelopes that it has sent itself and not yet taken, and the number of the last request
pub record MemberValue : Type 0 where
  pub header : HeaderValue
  pub replica : ReplicaValue
  pub envelopes : List Datagram
  pub asked : ℕ
