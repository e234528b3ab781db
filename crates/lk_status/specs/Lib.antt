pub mod Verdicts
pub mod States
pub mod Rounds
pub mod Measures
pub mod Targets
pub mod Changes
pub mod Looks
