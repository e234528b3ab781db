pub mod Inspections
pub mod Dumps
pub mod Lines
pub mod Scrubs
