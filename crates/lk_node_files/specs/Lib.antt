pub mod Openings
pub mod Ends
pub mod Existing
pub mod Older
pub mod Outdated
