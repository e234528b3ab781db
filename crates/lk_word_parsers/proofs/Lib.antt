pub mod Splits
pub mod AlphaWords
pub mod MemberWords
mod Numerals
mod GenesisWords
