mod WaitLaws
mod ClientLaws
mod MemberLaws
mod BestLaws
mod TermLaws
mod ValueLaws
mod Elements
mod LedTermLaws
pub mod Leaderships
