pub mod HexSpelling
mod WordLaws
mod InputLaws
mod GenesisLaws
pub mod LineLaws
