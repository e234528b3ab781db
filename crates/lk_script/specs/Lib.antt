pub mod Replies
pub mod TableMode
pub mod Worlds
pub mod Scripts
pub mod TableRuns
pub mod Endings
