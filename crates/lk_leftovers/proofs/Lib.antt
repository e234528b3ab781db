mod Reported
pub mod Walking
pub mod Filling
mod Collecting
pub mod Accepting
pub mod Offering
