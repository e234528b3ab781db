mod HeaderLaws
pub mod EntryLaws
pub mod Spelling
pub mod Torn
pub mod Mixed
pub mod Whole
pub mod InOrder
pub mod Halving
pub mod StandingLaws
pub mod OneStanding
mod VotesInOrder
mod VotesHalved
pub mod VoteParts
