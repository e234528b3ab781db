-- What a contract sees of votes that are read in place.
use Rattle.std.specs.Prelude.{◌≡◌, ℕ, List, [], Option, Some, None}
use Rattle.lk_types.specs.declared.vote.Vote.{Vote}
use Rattle.lk_codec.specs.Parser.{many}
use Rattle.lk_codec.specs.FieldReading.{read_vote}

-- the bytes spell exactly this value
abbrev pub IsAll : {X : Type 0} → (List ℕ → Option (X × List ℕ)) → X → List ℕ → Type 0
IsAll p x bytes = p bytes ≡ Some (x, [])

-- the value that was read, or this one if none was
abbrev pub value_or : {X : Type 0} → X → Option (X × List ℕ) → X
value_or other None = other
value_or other (Some r) = r.0

-- the votes that the bytes spell, this many
abbrev pub votes_in : ℕ → List ℕ → List Vote
votes_in count bytes = value_or [] (many read_vote count bytes)

abbrev pub AreVotes : ℕ → List ℕ → Type 0
AreVotes count bytes = IsAll (many read_vote count) (votes_in count bytes) bytes
