-- The lemmas that other crates cite: of this folder nothing else is for them.
pub use Rattle.lk_members.proofs.EffectLaws.{entries_follow_their_predecessors, numbers_take_effect_once}
pub use Rattle.lk_members.proofs.EffectLaws.{in_effect_after}
pub use Rattle.lk_members.proofs.EffectLaws.{all_of_another-push, IsLast-push, IsLast-new}
pub use Rattle.lk_members.proofs.MajorityLaws.{majority_lies_within, majorities_meet}
pub use Rattle.lk_members.proofs.PortLaws.{ports_are_named}
pub use Rattle.lk_members.proofs.Pushes.{positioned-push, added, effects-push, roster_behind, roster_of-push}
pub use Rattle.lk_members.proofs.RosterLaws.{first_fits, passed_fits, changed_fits}
pub use Rattle.lk_members.proofs.SetLaws.{AllByRecursion-push}
pub use Rattle.lk_members.proofs.WindowLaws.{members_stay, length_of_window, set_of_window, newest_roster-roster_after}
pub use Rattle.lk_members.proofs.WindowLaws.{roster_after-push, roster_after-begin}
