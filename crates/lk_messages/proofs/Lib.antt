mod Walks
mod MessageLaws
mod DatagramLaws
mod Lengths
pub mod Spellings
