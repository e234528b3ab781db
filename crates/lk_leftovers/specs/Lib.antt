pub mod Filling
pub mod Collecting
pub mod Accepting
