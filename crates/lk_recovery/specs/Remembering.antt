-- What a replica keeps of what its node has promised and accepted, whatever history it restarted in.
use Rattle.std.specs.Prelude.{◌≡◌, ℕ}
use Rattle.lk_log.specs.StoreValue.{StoreValue}
use Rattle.lk_node.specs.Histories.{Genesis}
use Rattle.lk_node.specs.Keeping.{StoreKeeps}
use Rattle.lk_node.specs.Leavings.{header_of}
use Rattle.lk_node.specs.NodeValue.{NodeValue}

-- the replica, by its parts, is that of the node in the cluster with this genesis, and its store keeps what its
-- acceptor holds
pub record ReplicaRemembers (node : NodeValue) (store : StoreValue) (genesis : Genesis) (n : ℕ) : Type 0 where
  pub whose : node.header ≡ header_of genesis n
  pub keeps : StoreKeeps (header_of genesis n) store node.acceptor.state
