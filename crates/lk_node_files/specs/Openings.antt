-- Why something does not open.
use Rattle.std.specs.Prelude.{◌≡◌, ◌⊎◌}
use Rattle.lk_program_fault.specs.declared.fault.ProgramFault.{ProgramFault}
use Rattle.lk_program_fault.specs.declared.fault.ProgramFault.TheVariants as fault

-- the faults with which opening fails: it does not open, or there is no memory for its path
abbrev pub IsClosed : ProgramFault → Type 0
IsClosed f = (f ≡ fault.CannotOpen) ⊎ (f ≡ fault.NoMemory)

-- the faults with which files that are open are not read: a call fails, there is no memory, or a sum differs
abbrev pub IsUnreadable : ProgramFault → Type 0
IsUnreadable f = (f ≡ fault.Device) ⊎ (f ≡ fault.NoMemory) ⊎ (f ≡ fault.Damaged)

-- the faults with which the files of a folder are not opened and read
abbrev pub IsUnopened : ProgramFault → Type 0
IsUnopened f = IsClosed f ⊎ IsUnreadable f
