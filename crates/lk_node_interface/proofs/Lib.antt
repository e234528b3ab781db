pub mod ReplyLaws
mod Walks
