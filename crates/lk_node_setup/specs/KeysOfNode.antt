-- Whose keys the seals of a node are.
use Rattle.std.specs.Prelude.{◌≡◌}
use Rattle.lk_store_format.specs.Values.{HeaderValue}
use Rattle.lk_auth.specs.declared.seals.Seals.{Seals}
use Rattle.lk_node_setup.specs.Digests.{genesis_digest}

-- they are the seals of the node of this header, in its cluster, for its genesis
pub record AreSealsOf (header : HeaderValue) (s : Seals) : Type 0 where
  pub cluster : s.cluster ≡ header.cluster
  pub genesis : s.genesis ≡ genesis_digest header
  pub node : s.node ≡ header.node
