pub mod AcceptorValue
pub mod VoteLists
pub mod States
pub mod Replies
