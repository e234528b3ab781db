pub mod FenceLaws
pub mod LostLaws
pub mod MemberLaws
pub mod StoreLaws
pub mod SurvivorLaws
