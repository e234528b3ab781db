-- The order of ballots, and which ballots are valid.
use Rattle.std.specs.Prelude.{◌≡◌, ◌⊎◌, ◌<◌, Bool, nat_lt, ◌&&◌, ◌||◌, ◌==◌}
use Rattle.lk_types.specs.BallotValue.{BallotValue}
use Rattle.lk_types.specs.Ranges.{IsCount, IsNode}

-- one ballot is below another: a smaller round, or the same round and a smaller node
abbrev pub IsBelow : BallotValue → BallotValue → Type 0
IsBelow a b = (a.round < b.round) ⊎ ((a.round ≡ b.round) × (a.node < b.node))

-- below it, or the same
abbrev pub IsAtMost : BallotValue → BallotValue → Type 0
IsAtMost a b = IsBelow a b ⊎ (a ≡ b)

-- whether one is below another, for definitions that branch on it
abbrev pub is_below : BallotValue → BallotValue → Bool
is_below a b = nat_lt a.round b.round || (a.round == b.round && nat_lt a.node b.node)

-- below all real ballots
abbrev pub zero_ballot : BallotValue
zero_ballot = record { round = 0; node = 0 }

-- a ballot that a node can lead: round and node are in their ranges
abbrev pub IsRealBallot : BallotValue → Type 0
IsRealBallot b = IsCount b.round × IsNode b.node

-- a real ballot or the one below all
abbrev pub IsBallot : BallotValue → Type 0
IsBallot b = IsRealBallot b ⊎ (b ≡ zero_ballot)
