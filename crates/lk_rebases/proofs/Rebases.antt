-- The lemmas that other crates cite: of this folder nothing else is for them.
pub use Rattle.lk_rebases.proofs.Handling.{HasSame, Handled, handled, proposed_envelopes, proposed_same}
pub use Rattle.lk_rebases.proofs.Replies.{fits_itself, fits_snapshot}
pub use Rattle.lk_rebases.proofs.Staying.{begun_learner, idle_begins, taken_learner, ticked_other}
pub use Rattle.lk_rebases.proofs.Taking.{taken}
pub use Rattle.lk_rebases.proofs.Votes.{same_from, still_has, strict_filter}
