-- The numbers of the faults of reading.
use Rattle.std.specs.Prelude.{ℕ}
use Rattle.lk_wire.specs.declared.fault.ReadFault.{ReadFault}
use Rattle.lk_wire.specs.declared.fault.ReadFault.TheVariants.{Bad, NoMemory}

abbrev pub fault_number : ReadFault → ℕ
fault_number Bad = 5
fault_number NoMemory = 6
