mod Pushes
mod WindowLaws
mod SetLaws
mod EffectLaws
mod MajorityLaws
mod PortLaws
mod AlikeLaws
mod RosterLaws
pub mod Memberships
