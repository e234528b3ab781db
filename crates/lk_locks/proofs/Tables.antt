-- The lemmas that other crates cite: of this folder nothing else is for them.
pub use Rattle.lk_locks.proofs.GrantLaws.{grants_count_up, is_for_its_name, each_fence_is_listed, checks_tell_who_holds}
pub use Rattle.lk_locks.proofs.GrantLaws.{breaks_free_all}
pub use Rattle.lk_locks.proofs.NextFences.{next_of_free, granted_where_free}
pub use Rattle.lk_locks.proofs.ListLaws.{table_of-push, table_of-is_table, text_of-text, answer-text_of}
pub use Rattle.lk_locks.proofs.ListLaws.{table_keeps_texts}
