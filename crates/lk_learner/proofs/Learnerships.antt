-- The lemmas that other crates cite: of this folder nothing else is for them.
pub use Rattle.lk_learner.proofs.PairLaws.{rising_all, kept_within, kept_once, kept_few, kept_with, kept_without}
pub use Rattle.lk_learner.proofs.PairLaws.{with_has, with_others, with_only, without_from, without_next, kept_above}
pub use Rattle.lk_learner.proofs.LearnerLaws.{ran_moves, advanced_fits, keeping_fits, installed_fits, decided_fits}
pub use Rattle.lk_learner.proofs.FollowLaws.{filter_has, executed_is, packed_is, begun_follows, here_follows}
pub use Rattle.lk_learner.proofs.FollowLaws.{keeping_follows, advanced_follows, installed_follows, next_known}
pub use Rattle.lk_learner.proofs.FollowLaws.{next_chosen, next_stands, learning_changes, running_changes, served_stands}
pub use Rattle.lk_learner.proofs.FollowLaws.{served_chosen}
pub use Rattle.lk_learner.proofs.PartLaws.{parts_slice, heard_front}
