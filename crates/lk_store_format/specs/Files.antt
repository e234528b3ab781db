-- The whole entries of a file, and what follows them.
use Rattle.std.specs.Prelude.{◌≡◌, ℕ, ◌+◌, Bool, nat_lt, nat_le, ◌&&◌, ◌||◌, not, List, ◌++◌, length, take}
use Rattle.std.specs.Int.{w32, from_be_bytes}
use Rattle.std.specs.List.{AllByRecursion}
use Rattle.lk_types.specs.Limits.{max_torn}
use Rattle.lk_store_format.specs.Entries.{spelling, spelling_of_all, IsStored}
use Rattle.lk_store_format.specs.Formats.{is_mixed}
use Rattle.lk_store_format.specs.declared.stored.Stored.{Stored}

-- no entry begins these bytes
abbrev pub NoEntryNext : List ℕ → Type 0
NoEntryNext rest = (e : Stored) (more : List ℕ) → IsStored e → rest ≡ spelling e ++ more → ⊥

-- the whole entries of some bytes: the longest list of entries whose spellings, joined, begin them
pub record AreWholeEntries (bytes : List ℕ) (es : List Stored) : Type 0 where
  pub fit : AllByRecursion IsStored es
  pub rest : List ℕ
  pub is : bytes ≡ spelling_of_all es ++ rest
  pub ends : NoEntryNext rest

-- the length that the first bytes state
unfoldable pub stated_length : List ℕ → ℕ
stated_length rest = from_be_bytes w32 (take 4 rest)

-- what a stop may leave of an entry: under four bytes, or a length of 1 to 65,536 and fewer bytes than it states
abbrev pub is_torn : List ℕ → Bool
is_torn rest = nat_lt (length rest) 4
    || (nat_le 1 (stated_length rest) && nat_le (stated_length rest) max_torn
    && nat_lt (length rest) (4 + stated_length rest))

-- A file's whole entries, and whether it is damaged: they are followed by a rest that is not torn, or they mix the two
-- formats.
pub record IsFile (bytes : List ℕ) (es : List Stored) (is_damaged : Bool) : Type 0 where
  pub whole : AreWholeEntries bytes es
  pub damage : (not (is_torn whole.rest) || is_mixed es) ≡ is_damaged
