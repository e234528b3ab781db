pub mod Bundles
pub mod Opened
