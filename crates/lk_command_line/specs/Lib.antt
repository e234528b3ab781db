pub mod Admins
pub mod Arguments
pub mod Spellings
pub mod Questions
pub mod StatusPlans
pub mod Targets
