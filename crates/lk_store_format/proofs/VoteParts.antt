-- The lemmas that other crates cite: of this folder nothing else is for them.
pub use Rattle.lk_store_format.proofs.VotesHalved.{rising_parts}
