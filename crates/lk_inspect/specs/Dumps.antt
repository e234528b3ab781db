-- What a dump of a store prints.
use Rattle.std.specs.Prelude.{◌≡◌, ℕ, Bool, true, false, List, [], ◌∷◌, ◌++◌, length, codes, Option, Some, None}
use Rattle.std.specs.Prelude.{if◌then◌else◌}
use Rattle.std.specs.Fmt.{decimal}
use Rattle.lk_types.specs.BallotValue.{BallotValue}
use Rattle.lk_store_format.specs.Values.{StandingValue}
use Rattle.lk_log.specs.Images.{Image, IsEmpty}
use Rattle.lk_log.specs.Stores.{Shows}
use Rattle.lk_log.specs.declared.reopening.LiveFile.{LiveFile}

-- a line of a name and a number
abbrev pub number_line : List ℕ → ℕ → List ℕ
number_line name number = name ++ (32 ∷ (decimal number ++ 10 ∷ []))

-- the line of a ballot: its round and its node
abbrev pub promised_line : BallotValue → List ℕ
promised_line b = codes "promised " ++ (decimal b.round ++ (32 ∷ (decimal b.node ++ 10 ∷ [])))

-- the format of a live file: 3 if it has sums, or else the one that its Base states
abbrev pub format_shown : Bool → ℕ → ℕ
format_shown sums format = if sums then 3 else format

-- the six lines of a live file with this generation, format and standing
abbrev pub live_text : ℕ → ℕ → StandingValue → List ℕ
live_text generation format s =
    number_line (codes "generation") generation
    ++ (promised_line s.promised
    ++ (number_line (codes "snapshot") s.position
    ++ (number_line (codes "votes") (length s.votes)
    ++ (number_line (codes "decided") (length s.pairs) ++ number_line (codes "format") format))))

-- the lines of what was found, where the store has sums or not
abbrev pub found_text : Bool → Option LiveFile → List ℕ
found_text sums None = codes "no store\n"
found_text sums (Some live) = live_text live.generation (format_shown sums live.format) live.standing

-- the text shows the live file of these files, or that they have none
abbrev pub Dumps : Bool → Image → Bool → List ℕ → Type 0
Dumps sums image false text = IsEmpty image × (text ≡ codes "no store\n")
Dumps sums image true text = (generation : ℕ) × (format : ℕ) × (standing : StandingValue)
    × Shows image generation format standing × (text ≡ live_text generation (format_shown sums format) standing)
