pub mod Revivals
pub mod Turns
pub mod Warnings
pub mod FirstStores
