pub mod Waits
pub mod Terms
pub mod Values
pub mod Proposing
pub mod Acceptances
pub mod LedTerms
