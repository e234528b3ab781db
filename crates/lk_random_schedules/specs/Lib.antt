pub mod Drawn
pub mod Schedules
pub mod Transcripts
pub mod Lines
