-- Why a replica refuses a call of a group.
use Rattle.lk_node_interface.specs.declared.fault.ReplicaFault.{ReplicaFault}
use Rattle.lk_node_interface.specs.declared.fault.ReplicaFault.TheVariants as fault

-- the faults that a call of a group can return: only a restart finds damage or the store of another node, and a failed
-- send is no fault of the replica
abbrev pub IsOfGroups : ReplicaFault → Type 0
IsOfGroups fault.Device = Unit {0}
IsOfGroups fault.NoMemory = Unit {0}
IsOfGroups fault.Damaged = ⊥
IsOfGroups fault.WrongStore = ⊥
IsOfGroups fault.Failed = Unit {0}
IsOfGroups fault.Halted = Unit {0}
IsOfGroups (fault.Send notes) = ⊥
