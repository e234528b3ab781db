mod Buffering
pub mod Devices
