pub mod Pairs
pub mod Learners
pub mod Parts
pub mod Gathering
pub mod Unpacking
pub mod Installing
pub mod Following
