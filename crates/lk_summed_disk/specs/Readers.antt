-- What the bytes of a file mean, read from the first on.
use Rattle.std.specs.Prelude.{◌≡◌, ℕ, ◌==◌, true, List, [], ◌∷◌, ◌++◌, length, take, ⊤, if◌then◌else◌}
use Rattle.std.specs.Str.{bytes_eq}
use Rattle.lk_disk.specs.Disk.{Disk}
use Rattle.lk_disk.specs.declared.device.Side.{Side}
use Rattle.lk_summed_disk.specs.Frames.{magic, seed, digest, is_frame, is_torn, piece_in}

-- what the bytes read so far are
pub data Reader : Type 0 where
  -- none, of the file at this side
  fresh : Side → Reader
  -- a file without sums: its text is its bytes
  plain : Reader
  -- the first bytes of a magic, or other bytes in its place
  marked : Side → List ℕ → Reader
  -- whole frames up to this chain, and then these bytes, of which no front is a frame
  framed : List ℕ → List ℕ → Reader

-- a file without sums begins with a zero
abbrev pub step : Reader → ℕ → Reader
step (fresh s) b = if b == 0 then plain else marked s (b ∷ [])
step plain b = plain
step (marked s bytes) b =
    if bytes_eq (bytes ++ b ∷ []) (magic s) then framed (seed s) [] else marked s (bytes ++ b ∷ [])
step (framed chain bytes) b =
    if is_frame chain (bytes ++ b ∷ []) then framed (digest chain (piece_in (bytes ++ b ∷ []))) []
    else framed chain (bytes ++ b ∷ [])

-- the text that becomes whole with a byte
abbrev pub added : Reader → ℕ → List ℕ
added (fresh s) b = if b == 0 then b ∷ [] else []
added plain b = b ∷ []
added (marked s bytes) b = []
added (framed chain bytes) b = if is_frame chain (bytes ++ b ∷ []) then piece_in (bytes ++ b ∷ []) else []

abbrev pub read : Reader → List ℕ → Reader
read r [] = r
read r (b ∷ bs) = read (step r b) bs

-- the text of bytes that follow those read so far
abbrev pub text : Reader → List ℕ → List ℕ
text r [] = []
text r (b ∷ bs) = added r b ++ text (step r b) bs

-- A stop may have left it: what follows the last whole frame is torn. Anything else is damage.
abbrev pub IsSound : Reader → Type 0
IsSound (fresh s) = ⊤
IsSound plain = ⊤
IsSound (marked s bytes) = bytes ≡ take (length bytes) (magic s)
IsSound (framed chain bytes) = is_torn bytes ≡ true

-- the text of a disk, as far as it is synced and after that
abbrev pub decoded : Side → Disk → Disk
decoded s d = record { synced = text (fresh s) d.synced; unsynced = text (read (fresh s) d.synced) d.unsynced }
