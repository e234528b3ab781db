mod Rising
mod Searching
mod Keeping
mod Granting
mod Replying
pub mod Acceptors
