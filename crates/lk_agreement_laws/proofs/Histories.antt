-- The lemmas that other crates cite: of this folder nothing else is for them.
pub use Rattle.lk_agreement_laws.proofs.BallotOrder.{at_most_trans, below_at_most, at_most_below, at_most_unless_below}
pub use Rattle.lk_agreement_laws.proofs.BallotOrder.{below_self}
pub use Rattle.lk_agreement_laws.proofs.Signed.{said_alike, sent_cases, heard_was_sent, asked_is_no_saying}
pub use Rattle.lk_agreement_laws.proofs.Agree.{command_within, entry_chosen, one_chosen, chosen_agree, at_same_place}
pub use Rattle.lk_agreement_laws.proofs.Ranges.{chosen_was_accepted, chosen_at_fits, chosen_fits, chosen_short}
pub use Rattle.lk_agreement_laws.proofs.Grow.{still_sent, still_was, still_chosen, still_chosen_at, still_chosen_from}
pub use Rattle.lk_agreement_laws.proofs.Grow.{still_stems, chosen_push, chosen_take}
pub use Rattle.lk_agreement_laws.proofs.VoteLists.{pushed_takes_vote, filtered_takes_snapshot, filtered_may_promise}
pub use Rattle.lk_agreement_laws.proofs.ChangeLaws.{change_fits, changes_fit, restart_fits, accepted_is_chosen}
pub use Rattle.lk_agreement_laws.proofs.Runs.{start_fits, covers_both, batch_fits, covers_elsewhere, asked_fits}
pub use Rattle.lk_agreement_laws.proofs.Runs.{with_paxos_fits, kept_by_majority}
pub use Rattle.lk_agreement_laws.proofs.Slices.{same_length_same, slices_concatenate, whole_slice, still_slice}
pub use Rattle.lk_agreement_laws.proofs.Slices.{prefix_slice}
pub use Rattle.lk_agreement_laws.proofs.Lists.{cons_cases, contains_more, filter_from, filter_passes_at, only}
