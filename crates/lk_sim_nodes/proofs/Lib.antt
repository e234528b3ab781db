pub mod Shortness
pub mod Fitting
pub mod Faults
pub mod Stopping
pub mod Together
pub mod Tellings
