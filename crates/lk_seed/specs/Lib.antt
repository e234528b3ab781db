pub mod Fences
pub mod Histories
pub mod MemberValue
pub mod Survivors
pub mod Seedings
pub mod Words
