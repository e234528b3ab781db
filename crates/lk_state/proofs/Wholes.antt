-- The lemmas that other crates cite: of this folder nothing else is for them.
pub use Rattle.lk_state.proofs.LastLaws.{takes_effect_above_last, last_is_greatest, last_is_replied, none_is_unused}
pub use Rattle.lk_state.proofs.LastLaws.{one_reply, replies_come_from_entries}
pub use Rattle.lk_state.proofs.LengthLaws.{packed_is_some, length-packed}
pub use Rattle.lk_state.proofs.PackedLaws.{one_packed}
pub use Rattle.lk_state.proofs.SessionLaws.{kept_is_its_clients}
pub use Rattle.lk_state.proofs.SeenLaws.{same_is, passed_is, new_is}
pub use Rattle.lk_state.proofs.ReplyLaws.{replies_stay}
pub use Rattle.lk_state.proofs.StateLaws.{by_pushes, text_behind, text_of-push, ledger-push, ran-whole_after}
pub use Rattle.lk_state.proofs.StateLaws.{last_session-session_of, seen_last, sessions_are_last}
pub use Rattle.lk_state.proofs.WholeLaws.{states_fit}
