-- What bytes after frames begin with.
use Rattle.std.specs.Prelude.{◌≡◌, ℕ, ◌≤◌, true, false, List, ◌++◌, length, take}
use Rattle.lk_summed_disk.specs.Frames.{frame, digest, is_frame, is_torn, max_piece}
use Rattle.lk_summed_disk.specs.declared.frame.Next.{Next}
use Rattle.lk_summed_disk.specs.declared.frame.Next.TheVariants.{Frame, Torn, Damaged}

-- a frame, what a stop may leave of one, or bytes of which no front is a frame and which no stop leaves
abbrev pub Finds : List ℕ → List ℕ → Next → Type 0
Finds chain bytes (Frame piece after rest) =
    (bytes ≡ frame chain piece.now ++ rest.now) × (after ≡ digest chain piece.now) × (length piece.now ≤ max_piece)
Finds chain bytes Torn = is_torn bytes ≡ true
Finds chain bytes Damaged = (is_torn bytes ≡ false) × ((n : ℕ) → is_frame chain (take n bytes) ≡ false)
