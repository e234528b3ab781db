-- The lemmas that other crates cite: of this folder nothing else is for them.
pub use Rattle.lk_acceptor.proofs.Rising.{rising_all, rising_count, rising_with, above_rises}
pub use Rattle.lk_acceptor.proofs.Keeping.{from_with, with_kept, promise_kept, vote_kept, rest_kept, still_kept}
pub use Rattle.lk_acceptor.proofs.Keeping.{takes_vote, takes_snapshot}
pub use Rattle.lk_acceptor.proofs.Replying.{prepare_may, accept_may, prepare_covered, accept_covered, own_written}
pub use Rattle.lk_acceptor.proofs.Replying.{vote_written, prepare_written, accept_written, prepare_once, accept_once}
