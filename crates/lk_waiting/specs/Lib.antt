pub mod ChangedNames
pub mod FullQueues
pub mod Waits
