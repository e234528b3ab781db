pub mod Stepping
pub mod Rebasing
pub mod Delivering
pub mod Sending
pub mod Shadowing
pub mod Noting
pub mod Exchanging
pub mod Balloting
pub mod Overtaking
mod Restarting
pub mod Waiting
mod Starting
mod Beginning
