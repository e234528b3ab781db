-- The messages that bind their sender to remember, and nodes whose disks are empty.
use Rattle.std.specs.Prelude.{◌≡◌, []}
use Rattle.lk_disk.specs.declared.device.Side.{Side}
use Rattle.lk_replica.specs.ReplicaValue.{ReplicaValue}
use Rattle.lk_server.specs.Servers.{ServerValue}
use Rattle.lk_sim_nodes.specs.declared.sim_node.RunState.{RunState}
use Rattle.lk_messages.specs.declared.message.NodeMessage.{NodeMessage}
use Rattle.lk_messages.specs.declared.message.NodeMessage.TheVariants as message
use Rattle.lk_cluster_theorems.specs.Clusters.{disks_in}

-- both are empty, as those of a new node
abbrev pub HasEmptyDisks : RunState (ServerValue ReplicaValue) → Type 0
HasEmptyDisks run_state = (s : Side) → disks_in run_state s ≡ record { synced = []; unsynced = [] }

-- the sender must remember this message: to send it, it had promised a ballot, or voted in one
abbrev pub MustBeRemembered : NodeMessage → Type 0
MustBeRemembered (message.Prepare ballot first) = Unit {0}
MustBeRemembered (message.Promise p) = Unit {0}
MustBeRemembered (message.Accept vote) = Unit {0}
MustBeRemembered (message.Accepted vote) = Unit {0}
MustBeRemembered _ = ⊥
