pub mod Stepping
pub mod Delivering
pub mod Balloting
pub mod Exchanging
pub mod Beginning
pub mod Restarting
pub mod Overtaking
pub mod Waiting
