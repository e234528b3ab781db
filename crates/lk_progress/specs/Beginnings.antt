-- A new cluster: its nodes know its genesis and nothing else. Once one of them is due, it is a quiet candidate, and the
-- others are quiet.
use Rattle.std.specs.Prelude.{◌≡◌, ◌==◌, ◌+◌, ℕ, true, false, min, Some, None, []}
use Rattle.std.specs.List.{position}
use Rattle.lk_types.specs.Ballots.{zero_ballot}
use Rattle.lk_types.specs.Geneses.{IsGenesis}
use Rattle.lk_types.specs.declared.genesis.Genesis.{Genesis}
use Rattle.lk_state.specs.Meanings.{Meaning}
use Rattle.lk_state.specs.States.{whole_after}
use Rattle.lk_leader.specs.Terms.{new_leader}
use Rattle.lk_learner.specs.Learners.{begun}
use Rattle.lk_node_interface.specs.Ticks.{max_ticks, is_enough}
use Rattle.lk_node.specs.Beginning.{next_ballot}
use Rattle.lk_node.specs.Leavings.{header_of}
use Rattle.lk_node.specs.NodeValue.{NodeValue}
use Rattle.lk_progress.specs.Exchanges.{IsQuietCandidate, IsQuietVoter}

-- the node of this number in a new cluster, after this many ticks
abbrev pub new_node : Meaning → Genesis → ℕ → ℕ → NodeValue
new_node m genesis n ticks = record {
  header = header_of genesis n;
  acceptor = record {
    alpha = genesis.alpha;
    state = record { promised = zero_ballot; votes = []; snapshot_position = 0 };
  };
  learner = begun (whole_after m genesis []);
  leader = new_leader;
  ticks = ticks;
  rounds = 0;
  known = None;
  gathered_before = 0;
  halted = false;
}

-- the node is at this place among the members of the genesis, and due with its next tick
pub record IsDueIn (genesis : Genesis) (n index ticks : ℕ) : Type 0 where
  pub valid : IsGenesis genesis
  pub place : position (λ m. m.node == n) genesis.members ≡ Some index
  pub waited : is_enough (min (ticks + 1) max_ticks) (Some index) ≡ true

-- the first due node of a new cluster, and the others
pub record StartsQuietly (m : Meaning) (genesis : Genesis) (n ticks : ℕ) : Type 0 where
  pub candidate : IsQuietCandidate (new_node m genesis n ticks) genesis.members
  pub others : (k passed : ℕ) → IsQuietVoter (new_node m genesis k passed) (next_ballot (new_node m genesis n ticks)) 0

abbrev pub NewClustersAreQuiet : Type 0
NewClustersAreQuiet = (m : Meaning) (genesis : Genesis) (n index ticks : ℕ) → IsDueIn genesis n index ticks
    → StartsQuietly m genesis n ticks
