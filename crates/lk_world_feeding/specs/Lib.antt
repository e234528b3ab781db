pub mod Asking
pub mod Nudging
pub mod Feeding
pub mod Gathering
