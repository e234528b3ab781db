pub mod Rooms
pub mod SimNodes
pub mod Ends
pub mod Sends
pub mod Outcomes
pub mod Refusals
pub mod Told
pub mod Left
