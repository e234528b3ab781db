pub mod NodeRuns
pub mod Plans
pub mod Subcommands
pub mod Looks
pub mod Seeds
