mod SessionLaws
mod StateLaws
mod SeenLaws
mod ReplyLaws
mod PackedLaws
mod LengthLaws
mod LastLaws
mod WholeLaws
pub mod Wholes
