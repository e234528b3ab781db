pub mod Grammar
pub mod Reading
pub mod Standings
pub mod Tables
pub mod Seen
pub mod Waiters
pub mod Queues
