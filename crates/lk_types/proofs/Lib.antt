pub mod Appending
mod BallotOrder
mod SameGenesis
pub mod Values
