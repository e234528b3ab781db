pub mod Kinds
pub mod News
pub mod Timers
pub mod RateLimits
pub mod Observations
pub mod Watches
