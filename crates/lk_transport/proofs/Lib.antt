pub mod Chaining
pub mod Streaming
