pub mod Values
pub mod Grammar
pub mod Reading
pub mod Views
