pub mod Rooms
pub mod Remembering
pub mod Compacting
pub mod Rebased
pub mod Renewals
pub mod Revivals
