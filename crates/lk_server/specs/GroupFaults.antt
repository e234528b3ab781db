-- Why a group ended a replica, as the fault that a command reports.
use Rattle.lk_server.specs.declared.group_fault.GroupFault.{GroupFault}
use Rattle.lk_server.specs.declared.group_fault.GroupFault.TheVariants as group
use Rattle.lk_program_fault.specs.declared.fault.ProgramFault.{ProgramFault}
use Rattle.lk_program_fault.specs.declared.fault.ProgramFault.TheVariants.{Device, NoMemory, Failed, Halted}

-- the same reason as a fault of the service
abbrev pub program_fault : GroupFault → ProgramFault
program_fault group.Device = Device
program_fault group.NoMemory = NoMemory
program_fault group.Failed = Failed
program_fault group.Halted = Halted
