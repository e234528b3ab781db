-- How a snapshot is served, part by part.
use Rattle.std.specs.Prelude.{◌≡◌, ◌⊎◌, ◌<◌, ◌≤◌, ◌+◌, ◌*◌, ℕ, nat_lt, if◌then◌else◌, List, length, take, drop, Some}
use Rattle.std.specs.Prelude.{slice_get}
use Rattle.lk_types.specs.Limits.{max_part}
use Rattle.lk_messages.specs.Values.{PartValue}

-- the most parts in reply to one request for a snapshot
abbrev pub max_parts : ℕ
max_parts = 8

-- the offset from which a text is served: the requested one, or the start if that is not below its length
abbrev pub start_of : ℕ → List ℕ → ℕ
start_of offset text = if nat_lt offset (length text) then offset else 0

-- the part at this offset of the text of a snapshot at a position: 1,024 bytes, or what is left of it
abbrev pub part_of : ℕ → List ℕ → ℕ → PartValue
part_of position text offset =
    record { position = position; total = length text; offset = offset; bytes = take max_part (drop offset text) }

-- the parts from there on, each beginning where the one before it ends: up to 8, and fewer only if the text ends with
-- them
pub record AreParts (position : ℕ) (text : List ℕ) (start : ℕ) (parts : List PartValue) : Type 0 where
  pub few : length parts ≤ max_parts
  pub each : (k : ℕ) (p : PartValue) → slice_get parts k ≡ Some p
      → (p ≡ part_of position text (start + k * max_part)) × (start + k * max_part < length text)
  pub all : (length parts ≡ max_parts) ⊎ (length text ≤ start + length parts * max_part)
