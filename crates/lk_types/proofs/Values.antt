-- The lemmas that other crates cite: of this folder nothing else is for them.
pub use Rattle.lk_types.proofs.BallotOrder.{below_by_test, test_of_below, at_most_by_test}
pub use Rattle.lk_types.proofs.SameGenesis.{same_genesis}
