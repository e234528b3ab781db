-- The lemmas that other crates cite: of this folder nothing else is for them.
pub use Rattle.lk_node.proofs.Lists.{cons_cases, contains_more, take_contains, map_contains, map_has}
pub use Rattle.lk_node.proofs.SafeSteps.{envelope_spelled, mapped_append}
pub use Rattle.lk_node.proofs.FewEntries.{few_entries}
pub use Rattle.lk_node.proofs.ReachLaws.{tells_more, all_near_more, with_all_behind, near_behind, told_behind}
pub use Rattle.lk_node.proofs.ReachLaws.{told_synced, window_is}
pub use Rattle.lk_node.proofs.ToldLaws.{step_told}
