pub mod Outcomes
pub mod Fields
pub mod Lines
pub mod Tokens
pub mod Json
pub mod Metrics
pub mod Prints
pub mod Withheld
