mod Revivals
mod Rebasing
mod Renewals
mod Adding
mod Images
mod Ordered
mod Refusing
mod Calling
mod Spared
mod Growing
mod Rerunning
mod Reaching
mod Restoring
pub mod Recoveries
