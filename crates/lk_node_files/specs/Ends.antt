-- Where the entries of a file end.
use Rattle.std.specs.Prelude.{◌≡◌, ℕ, ◌+◌, List, length}
use Rattle.lk_store_format.specs.Files.{AreWholeEntries}
use Rattle.lk_store_format.specs.declared.stored.Stored.{Stored}

-- the whole entries at the front of these bytes end at this offset
pub record EndsAt (bytes : List ℕ) (end : ℕ) : Type 0 where
  pub entries : List Stored
  pub whole : AreWholeEntries bytes entries
  pub behind : end + length whole.rest ≡ length bytes
