pub mod Memory
pub mod CountedFile
