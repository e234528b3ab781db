mod Maps
mod BodyLaws
mod GrantLaws
mod NextFences
mod TableLaws
mod ListLaws
pub mod Tables
