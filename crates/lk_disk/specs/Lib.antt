pub mod Disk
pub mod Meters
pub mod Traps
pub mod Files
pub mod Buffers
