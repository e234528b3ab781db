use Rattle.std.proofs.Common.{arith}
use Rattle.lk_acceptor.proofs.Rising.{from_are_few}
use Rattle.lk_acceptor.proofs.laws.a_promise_has_few_votes.Goals as goal

pub returns : goal.returns
returns c = λ a b first kept grants. from_are_few a.state.snapshot_position first a.alpha a.state.votes
    (omega (arith, grants.above)) kept.rising grants.near
