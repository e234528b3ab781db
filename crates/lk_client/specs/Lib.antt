pub mod Questions
pub mod Replies
pub mod Rules
pub mod Schedules
pub mod Waiters
pub mod Waits
pub mod Watches
