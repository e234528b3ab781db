-- The lines of a text.
use Rattle.std.specs.Prelude.{◌≡◌, ◌==◌, ℕ, Option, Some, List, [], ◌∷◌, if◌then◌else◌}
use Rattle.std.specs.Io.{StopsAt}
use Rattle.std.specs.Io.KnownBytes.{Consumes}

-- the first line with one more byte at its start
abbrev pub with_byte : ℕ → List (List ℕ) → List (List ℕ)
with_byte b [] = (b ∷ []) ∷ []
with_byte b (line ∷ lines) = (b ∷ line) ∷ lines

-- each line ends with a line feed, which the last may lack
abbrev pub lines_of : List ℕ → List (List ℕ)
lines_of [] = []
lines_of (b ∷ text) = if b == 10 then [] ∷ lines_of text else with_byte b (lines_of text)

-- the bytes before the first line feed
abbrev pub first_line : List ℕ → List ℕ
first_line [] = []
first_line (b ∷ text) = if b == 10 then [] else b ∷ first_line text

-- a line was taken from the start of the text, and the rest is left
abbrev pub ReadsLine : List ℕ → List ℕ → Option (List ℕ) → Type 0
ReadsLine text line left = (rest : List ℕ) × (left ≡ Some rest) × (lines_of text ≡ line ∷ lines_of rest)

-- no more than one line, with its line feed, was taken from the start of the text, and the rest is left
abbrev pub ReadsWithinLine : List ℕ → Option (List ℕ) → Type 0
ReadsWithinLine text left = (part : List ℕ) × StopsAt part 10 × Consumes (Some text) left part
