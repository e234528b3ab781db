mod Codec
mod Repeats
mod NumberLaws
mod KindLaws
mod Loop
mod FieldLaws
mod FrontLaws
mod Appends
pub mod Spellings
