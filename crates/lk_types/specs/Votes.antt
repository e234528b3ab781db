-- The ranges of a vote's parts, and lists of votes whose positions rise.
use Rattle.std.specs.Prelude.{ℕ, Bool, true, nat_lt, ◌&&◌, List, [], ◌∷◌}
use Rattle.lk_types.specs.Ranges.{IsCount}
use Rattle.lk_types.specs.Ballots.{IsRealBallot}
use Rattle.lk_types.specs.Commands.{IsCommand}
use Rattle.lk_types.specs.declared.vote.Vote.{Vote}

abbrev pub IsVote : Vote → Type 0
IsVote v = IsCount v.position × IsRealBallot v.ballot × IsCommand v.command

-- the positions rise strictly, the first above low
abbrev pub are_votes_above : ℕ → List Vote → Bool
are_votes_above low [] = true
are_votes_above low (v ∷ vs) = nat_lt low v.position && are_votes_above v.position vs
