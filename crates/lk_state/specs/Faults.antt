-- The numbers of the errors of `unpack`.
use Rattle.std.specs.Prelude.{ℕ}
use Rattle.lk_state.specs.declared.machine.UnpackFault.{UnpackFault}
use Rattle.lk_state.specs.declared.machine.UnpackFault.TheVariants as fault

abbrev pub unpack_number : UnpackFault → ℕ
unpack_number fault.NotPacked = 12
unpack_number fault.NoMemory = 13
