-- A frame: what an append becomes in a file with sums.
use Rattle.std.specs.Prelude.{◌≡◌, ℕ, ◌+◌, ◌-◌, ◌*◌, ◌/◌, ◌%◌, ◌==◌, Bool, nat_lt, nat_le, ◌&&◌, ◌||◌, List, []}
use Rattle.std.specs.Prelude.{◌∷◌, ◌++◌, length, take, drop}
use Rattle.std.specs.Int.{w32, to_be_bytes, from_be_bytes}
use Rattle.std.specs.Str.{bytes_eq}
use Rattle.sha2.specs.Sha256.{sha256}
use Rattle.lk_disk.specs.declared.device.Side.{Side}
use Rattle.lk_disk.specs.declared.device.Side.TheVariants.{A, B}

-- A length is written times this prime, so that a changed byte of it is noticed: no multiple differs from another one
-- in a single byte.
abbrev pub factor : ℕ
factor = 16381

-- the longest piece: its length, times the factor, is below 2^32
abbrev pub max_piece : ℕ
max_piece = 262192

unfoldable pub length_field : ℕ → List ℕ
length_field n = to_be_bytes w32 (n * factor)

-- what a file with sums begins with: the bytes of "locks 3a" or "locks 3b"
abbrev pub magic : Side → List ℕ
magic A = 108 ∷ 111 ∷ 99 ∷ 107 ∷ 115 ∷ 32 ∷ 51 ∷ 97 ∷ []
magic B = 108 ∷ 111 ∷ 99 ∷ 107 ∷ 115 ∷ 32 ∷ 51 ∷ 98 ∷ []

-- the file of these bytes has sums
abbrev pub HasSums : Side → List ℕ → Type 0
HasSums s bytes = (rest : List ℕ) × (bytes ≡ magic s ++ rest)

-- the chain before the first frame of a file
unfoldable pub seed : Side → List ℕ
seed s = sha256 (magic s)

-- the chain after a frame of this piece: the digest of the chain before it, its length and its bytes
unfoldable pub digest : List ℕ → List ℕ → List ℕ
digest chain piece = sha256 (chain ++ (length_field (length piece) ++ piece))

-- a piece's sum is the front of that digest
abbrev pub sum : List ℕ → List ℕ → List ℕ
sum chain piece = take 4 (digest chain piece)

unfoldable pub frame : List ℕ → List ℕ → List ℕ
frame chain piece = length_field (length piece) ++ (piece ++ sum chain piece)

-- what is between the length and the sum
abbrev pub piece_in : List ℕ → List ℕ
piece_in bytes = take (length bytes - 8) (drop 4 bytes)

-- these bytes are a frame after this chain
unfoldable pub is_frame : List ℕ → List ℕ → Bool
is_frame chain bytes = nat_le (length (piece_in bytes)) max_piece && bytes_eq bytes (frame chain (piece_in bytes))

-- the number that the length is written as
unfoldable pub stated : List ℕ → ℕ
stated rest = from_be_bytes w32 (take 4 rest)

-- What a stop may leave of a frame: under four bytes, or a length and fewer bytes than it states. None is left too.
unfoldable pub is_torn : List ℕ → Bool
is_torn rest =
    nat_lt (length rest) 4 || ((stated rest % factor == 0) && nat_lt (length rest) (stated rest / factor + 8))
