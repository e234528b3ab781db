pub mod Probes
pub mod Histories
pub mod Tokens
