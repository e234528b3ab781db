pub mod Hearing
mod Executing
mod Ticking
pub mod Rejecting
mod Answering
mod Feeding
mod Gathering
mod GettingOn
mod Majorities
pub mod Proposing
mod Leading
mod Deciding
pub mod Electing
pub mod LeadingOn
mod Candidates
pub mod Quiet
pub mod Exchanges
pub mod Beginnings
