pub mod StoreValue
pub mod Causes
pub mod OpenCauses
pub mod Images
pub mod Stores
pub mod EveryImage
pub mod Rooms
