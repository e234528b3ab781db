-- The lemmas that other crates cite: of this folder nothing else is for them.
pub use Rattle.lk_replica.proofs.Grouped.{begun, begin_fits, room_as_sent}
