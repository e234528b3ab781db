mod PairLaws
mod LearnerLaws
mod FollowLaws
mod PartLaws
pub mod Learnerships
