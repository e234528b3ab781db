-- What the bytes of a file are parsed to.
use Rattle.std.specs.Prelude.{◌≡◌, ℕ, List, Some, ⊤}
use Rattle.lk_disk.specs.declared.device.Side.{Side}
use Rattle.lk_summed_disk.specs.Readers.{fresh, read, text, IsSound}
use Rattle.lk_summed_disk.specs.Places.{Holds}
use Rattle.lk_summed_disk.specs.declared.fault.OpenFault.{OpenFault}
use Rattle.lk_summed_disk.specs.declared.fault.OpenFault.TheVariants.{Device, NoMemory, Damaged}
use Rattle.lk_summed_disk.specs.declared.parsing.Parsed.{Parsed}

-- this text, and this place
pub record IsParsed (s : Side) (bytes : List ℕ) (p : Parsed) : Type 0 where
  pub text_is : p.text.items ≡ text (fresh s) bytes
  pub holds : Holds s bytes (Some p.place)

-- if it says damage, then that file is damaged
abbrev pub IsTrueDamage : Side → List ℕ → OpenFault → Type 0
IsTrueDamage s bytes Device = ⊤
IsTrueDamage s bytes NoMemory = ⊤
IsTrueDamage s bytes (Damaged side offset) = (side ≡ s) × (IsSound (read (fresh s) bytes) → ⊥)
