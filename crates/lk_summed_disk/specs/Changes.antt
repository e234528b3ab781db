-- What a disk may have changed, where the file still opens.
use Rattle.std.specs.Prelude.{◌≡◌, ◌≢◌, ℕ, ◌≤◌, true, List, [], ◌∷◌, ◌++◌, length, ⊤}
use Rattle.lk_disk.specs.declared.device.Side.{Side}
use Rattle.lk_summed_disk.specs.Frames.{magic, seed, digest, frame, max_piece, is_torn}

-- the frames of these pieces, after this chain
abbrev pub frames : List ℕ → List (List ℕ) → List ℕ
frames chain [] = []
frames chain (piece ∷ pieces) = frame chain piece ++ frames (digest chain piece) pieces

-- the chain after them
abbrev pub chain_after : List ℕ → List (List ℕ) → List ℕ
chain_after chain [] = chain
chain_after chain (piece ∷ pieces) = chain_after (digest chain piece) pieces

abbrev pub joined : List (List ℕ) → List ℕ
joined [] = []
joined (piece ∷ pieces) = piece ++ joined pieces

-- the file of these pieces
abbrev pub written : Side → List (List ℕ) → List ℕ
written s pieces = magic s ++ frames (seed s) pieces

abbrev pub AllFit : List (List ℕ) → Type 0
AllFit [] = ⊤
AllFit (piece ∷ pieces) = (length piece ≤ max_piece) × AllFit pieces

-- at this place of the pieces stands another one, or none
abbrev pub IsOther : List ℕ → List (List ℕ) → Type 0
IsOther other [] = ⊤
IsOther other (piece ∷ pieces) = other ≢ piece

-- What frames that are read without damage after those of some pieces may be: the disk left a front of what was
-- written; or it holds a frame of another piece at the place of one, with the right sum of that piece.
pub data Explains (chain : List ℕ) (pieces : List (List ℕ)) (bytes : List ℕ) : Type 0 where
  kept : (before after : List (List ℕ)) → pieces ≡ before ++ after → (torn : List ℕ)
      → is_torn torn ≡ true → bytes ≡ frames chain before ++ torn → Explains chain pieces bytes
  forged : (before after : List (List ℕ)) → pieces ≡ before ++ after → (other rest : List ℕ)
      → bytes ≡ frames chain before ++ (frame (chain_after chain before) other ++ rest) → IsOther other after
      → Explains chain pieces bytes
