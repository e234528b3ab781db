pub mod Lines
pub mod NodeStates
