pub mod Effects
pub mod Rosters
pub mod Majorities
pub mod Nodes
pub mod Ports
pub mod Sets
pub mod Windows
