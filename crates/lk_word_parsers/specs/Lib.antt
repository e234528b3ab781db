pub mod Words
pub mod Verbs
pub mod Operations
pub mod Geneses
