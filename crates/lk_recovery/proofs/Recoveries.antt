-- The lemmas that other crates cite: of this folder nothing else is for them.
pub use Rattle.lk_recovery.proofs.Calling.{err_as, refused_after, refused_on}
pub use Rattle.lk_recovery.proofs.Refusing.{same_error, put_refused, failed_alone}
pub use Rattle.lk_recovery.proofs.Spared.{spared_all, spared_more, spared_number, put_spares, sync_refused, sync_spares}
pub use Rattle.lk_recovery.proofs.Spared.{left_after, kept_then, file_after, second_after, not_failed_so}
pub use Rattle.lk_recovery.proofs.Spared.{sync_not_failed}
pub use Rattle.lk_recovery.proofs.Growing.{grown_none, grown_base, grown_then, grown_put, grown_less}
pub use Rattle.lk_recovery.proofs.Images.{EntriesCover, cover_entries, held_fit, fit_disks, cover_disks, put_fits}
pub use Rattle.lk_recovery.proofs.Images.{put_covers, known_rests, entries_fit, grown_fit, entries_cover, cover_more}
pub use Rattle.lk_recovery.proofs.Images.{none_asked}
pub use Rattle.lk_recovery.proofs.Rebasing.{before_step, before_fits, snapshot_covers, base_stands, here, rebase_stands}
pub use Rattle.lk_recovery.proofs.Rebasing.{base_fits, here_fits, same_holds, same_room, goes_fits, leaves_safe}
pub use Rattle.lk_recovery.proofs.Rebasing.{base_covers, node_covers, files_switched}
pub use Rattle.lk_recovery.proofs.Revivals.{nothing_later, held_by, held_fits, stands_still, given_fit, given_cover}
pub use Rattle.lk_recovery.proofs.Revivals.{given_room}
pub use Rattle.lk_recovery.proofs.Renewals.{goes_fit, then_goes, taken_keeps, of_last_old, last_old, revival_calls}
pub use Rattle.lk_recovery.proofs.Renewals.{not_of_store, renew_left, given_renew}
