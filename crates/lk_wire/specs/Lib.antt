pub mod Faults
pub mod Rooms
pub mod Views
pub mod Shown
pub mod Datagrams
