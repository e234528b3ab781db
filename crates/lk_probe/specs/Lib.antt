pub mod Grammar
pub mod Reading
pub mod Neighbours
pub mod Questions
pub mod StateDigests
