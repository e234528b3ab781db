pub mod Knowing
pub mod Taking
mod Nudging
mod Asking
mod Serving
mod Feeding
pub mod Gathering
mod Snapshots
mod Ways
