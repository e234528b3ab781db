-- How a file goes on: what a device knows of the bytes that a file has.
use Rattle.std.specs.Prelude.{◌≡◌, ℕ, ◌≤◌, Bool, true, false, List, [], length, take, ⊤, Option, Some, None}
use Rattle.lk_disk.specs.declared.device.Side.{Side}
use Rattle.lk_disk.specs.declared.device.Side.TheVariants.{A, B}
use Rattle.lk_summed_disk.specs.Readers.{Reader, fresh, plain, framed, read, text, IsSound}
use Rattle.lk_summed_disk.specs.declared.place.Form.{Form}
use Rattle.lk_summed_disk.specs.declared.place.Form.TheVariants.{Empty, Plain, Summed}
use Rattle.lk_summed_disk.specs.declared.place.Place.{Place}
use Rattle.lk_summed_disk.specs.declared.place.Places.{Places}

-- the reader after whole frames, or after the bytes of a file without sums
abbrev pub reader : Side → Form → Reader
reader s Empty = fresh s
reader s Plain = plain
reader s (Summed chain) = framed chain []

abbrev pub is_summed : Form → Bool
is_summed Empty = false
is_summed Plain = false
is_summed (Summed chain) = true

-- The place is right for a file of these bytes: its whole frames end there and leave that chain, and the bytes after
-- them, if it has any, add no text.
pub record IsPlace (s : Side) (bytes : List ℕ) (p : Place) : Type 0 where
  pub within : p.end ≤ length bytes
  pub reads : read (fresh s) (take p.end bytes) ≡ reader s p.form
  pub quiet : (n : ℕ) → p.end ≤ n → text (fresh s) (take n bytes) ≡ text (fresh s) bytes
  pub size : p.size ≡ length (text (fresh s) bytes)
  pub whole : p.is_whole ≡ true → p.end ≡ length bytes

-- no call has left the file unknown
abbrev pub IsKnown : Side → List ℕ → Option Place → Type 0
IsKnown s bytes None = ⊤
IsKnown s bytes (Some p) = IsPlace s bytes p

-- what the device holds of a file: nothing is damaged, and its place, if it is known, is right
pub record Holds (s : Side) (bytes : List ℕ) (p : Option Place) : Type 0 where
  pub sound : IsSound (read (fresh s) bytes)
  pub known : IsKnown s bytes p

abbrev pub place_at : Places → Side → Option Place
place_at ps A = ps.a
place_at ps B = ps.b

-- Bytes add a piece where a reader is: they read as the piece, and a front of them, as a stop or a failed append may
-- leave it, adds a front of the piece and is no damage.
pub record Adds (r : Reader) (piece bytes : List ℕ) (after : Reader) : Type 0 where
  pub adds : text r bytes ≡ piece
  pub reads : read r bytes ≡ after
  pub front : (n : ℕ) → (m : ℕ) × (text r (take n bytes) ≡ take m piece)
  pub sound : (n : ℕ) → IsSound (read r (take n bytes))
