-- The lemmas that other crates cite: of this folder nothing else is for them.
pub use Rattle.lk_messages.proofs.DatagramLaws.{again, is_found, one_message}
pub use Rattle.lk_messages.proofs.Lengths.{length-ballot}
pub use Rattle.lk_messages.proofs.Walks.{commands_read, cut, spelled, stepped}
