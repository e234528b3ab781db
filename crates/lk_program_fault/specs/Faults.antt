-- The fault by which a command of the service reports a fault of its store, its replica or a snapshot.
use Rattle.lk_log.specs.declared.fault.OpenFault.{OpenFault}
use Rattle.lk_log.specs.declared.fault.OpenFault.TheVariants as opening
use Rattle.lk_state.specs.declared.machine.UnpackFault.{UnpackFault}
use Rattle.lk_state.specs.declared.machine.UnpackFault.TheVariants as unpack
use Rattle.lk_program_fault.specs.declared.fault.ProgramFault.{ProgramFault}
use Rattle.lk_node_interface.specs.declared.fault.ReplicaFault.{ReplicaFault}
use Rattle.lk_node_interface.specs.declared.fault.ReplicaFault.TheVariants as replica
use Rattle.lk_program_fault.specs.declared.fault.ProgramFault.TheVariants.{Device, NoMemory, Damaged, WrongStore}
use Rattle.lk_program_fault.specs.declared.fault.ProgramFault.TheVariants.{Failed, Halted}

-- the fault that reports why no store was opened
abbrev pub open_fault : OpenFault → ProgramFault
open_fault opening.Device = Device
open_fault opening.NoMemory = NoMemory
open_fault opening.Damaged = Damaged
open_fault opening.WrongStore = WrongStore

-- the fault that reports a replica's fault; a lost datagram is never reported, so its value does not matter
abbrev pub replica_fault : ReplicaFault → ProgramFault
replica_fault replica.Device = Device
replica_fault replica.NoMemory = NoMemory
replica_fault replica.Damaged = Damaged
replica_fault replica.WrongStore = WrongStore
replica_fault replica.Failed = Failed
replica_fault replica.Halted = Halted
replica_fault (replica.Send notes) = Failed

-- the fault that reports a text that does not unpack
abbrev pub unpack_fault : UnpackFault → ProgramFault
unpack_fault unpack.NotPacked = Damaged
unpack_fault unpack.NoMemory = NoMemory
