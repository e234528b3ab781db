pub mod Fields
pub mod Parser
pub mod FieldReading
pub mod Fronts
pub mod Rooms
