mod Lists
mod BallotOrder
mod Agree
mod Ranges
mod Grow
mod Signed
mod Sends
mod ChangeLaws
mod Runs
mod VoteLists
mod Slices
mod Example
pub mod Histories
