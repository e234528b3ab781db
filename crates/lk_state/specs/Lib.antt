pub mod Meanings
pub mod Sessions
pub mod States
pub mod Runs
pub mod Packed
pub mod Reading
pub mod Faults
