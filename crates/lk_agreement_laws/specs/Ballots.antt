-- The order of ballots.
pub use Rattle.lk_types.specs.BallotValue.{BallotValue}
pub use Rattle.lk_types.specs.Ballots.{IsBelow, IsAtMost}
