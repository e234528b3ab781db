-- A ballot as contracts see it.
use Rattle.std.specs.Prelude.{ℕ}

-- a round and the node that leads it, both 0 for the ballot below all others
pub record BallotValue : Type 0 where
  pub round : ℕ
  pub node : ℕ
