mod Handling
mod Votes
mod Replies
mod Running
mod Taking
mod Staying
pub mod Rebases
