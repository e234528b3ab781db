pub mod Keeping
mod Telling
pub mod Filling
mod Taking
pub mod Catching
pub mod Serving
pub mod Promising
pub mod Collecting
mod Exchanging
pub mod Fixed
pub mod Lasting
mod Feeding
mod Lagging
mod Asking
mod Installing
mod Parting
mod Leveling
pub mod Retrying
mod Persisting
mod Restarted
mod Interrupted
