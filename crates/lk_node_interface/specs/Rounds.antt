-- The ballot that a node begins next.
use Rattle.std.specs.Prelude.{ℕ, ◌+◌, nat_lt, if◌then◌else◌}
use Rattle.lk_types.specs.BallotValue.{BallotValue}

-- the greater of the promised ballot's round and the greatest one that was seen
abbrev pub greater_round : BallotValue → ℕ → ℕ
greater_round promised seen = if nat_lt promised.round seen then seen else promised.round

-- the node's ballot in the round above that
abbrev pub ballot_above : BallotValue → ℕ → ℕ → BallotValue
ballot_above promised seen node = record { round = greater_round promised seen + 1; node = node }
