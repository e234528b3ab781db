pub mod TickTimers
pub mod Paces
