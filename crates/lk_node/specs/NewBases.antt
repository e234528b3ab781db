-- What a node writes as the Base of another file.
use Rattle.std.specs.Prelude.{ℕ, ◌+◌, ◌*◌, ◌≤◌, max}
use Rattle.lk_store_format.specs.Values.{StandingValue}
use Rattle.lk_state.specs.Packed.{packed}
use Rattle.lk_acceptor.specs.States.{without_votes_to, with_state}
use Rattle.lk_acceptor.specs.VoteLists.{votes_above}
use Rattle.lk_learner.specs.Learners.{executed}
use Rattle.lk_learner.specs.Learners as learners
use Rattle.lk_node.specs.NodeValue.{NodeValue}

-- what it holds, with a snapshot of its state in place of everything that it has executed
abbrev pub standing_of : NodeValue → StandingValue
standing_of node = record {
  promised = node.acceptor.state.promised;
  position = executed node.learner;
  snapshot = packed node.learner.whole;
  votes = votes_above (executed node.learner) node.acceptor.state.votes;
  pairs = node.learner.pairs;
}

-- the node after that snapshot has replaced the votes and the executed commands up to there
abbrev pub with_snapshot : NodeValue → NodeValue
with_snapshot node = record node {
  acceptor = with_state node.acceptor (without_votes_to node.acceptor.state (executed node.learner));
  learner = learners.with_snapshot node.learner;
}

-- so many positions are executed between two snapshots: 16 times alpha, or 256 if that is more
abbrev pub snapshot_span : ℕ → ℕ
snapshot_span alpha = max (16 * alpha) 256

-- so many are executed above its snapshot
abbrev pub IsSnapshotOld : NodeValue → Type 0
IsSnapshotOld node =
    node.acceptor.state.snapshot_position + snapshot_span node.header.alpha ≤ executed node.learner
