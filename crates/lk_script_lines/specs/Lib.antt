pub mod Lines
pub mod HexLines
pub mod WorldLines
pub mod EventLines
pub mod GenesisLines
pub mod Faults
