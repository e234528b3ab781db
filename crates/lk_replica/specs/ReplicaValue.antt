-- What a contract sees of a replica.
use Rattle.std.specs.Prelude.{Bool}
use Rattle.lk_disk.specs.declared.device.Side.TheVariants.{A, B}
use Rattle.lk_memory_disk.specs.Memory.{Memory}
use Rattle.lk_log.specs.StoreValue.{StoreValue, disks}
use Rattle.lk_node.specs.NodeValue.{NodeValue}

-- a node, its store, and whether the replica rejects all calls
pub record ReplicaValue : Type 0 where
  pub node : NodeValue
  pub store : StoreValue
  pub failed : Bool

-- the device of its store, if that is one in memory
abbrev pub device_of : StoreValue → Memory
device_of s = record { a = disks s A; b = disks s B; meter = s.meter; failures = s.failures }
