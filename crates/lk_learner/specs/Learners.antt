-- What a contract sees of a learner, and how it changes.
pub use Rattle.lk_state.specs.States.{WholeValue}
pub use Rattle.lk_learner.specs.Pairs.{Command, Pair}
use Rattle.std.specs.Prelude.{◌≡◌, ℕ, ◌+◌, ◌-◌, ◌*◌, ◌<◌, ◌≤◌, Option, Some, None, List, [], ◌∷◌, ◌++◌, length, take}
use Rattle.std.specs.Prelude.{drop, Contains}
use Rattle.lk_types.specs.Limits.{max_commands, max_base}
use Rattle.lk_types.specs.Ranges.{IsAlpha}
use Rattle.lk_messages.specs.Values.{DecidedValue, WantValue}
use Rattle.lk_state.specs.Meanings.{Meaning}
use Rattle.lk_state.specs.Packed.{packed}
use Rattle.lk_state.specs.Runs.{ran}
use Rattle.lk_learner.specs.Pairs.{AreKept, with_pair, without}

-- the prefix of a snapshot's text that was heard so far
pub record GatheredValue : Type 0 where
  pub position : ℕ
  pub total : ℕ
  pub bytes : List ℕ

-- the state after the executed list, the position of the snapshot from which it began and the snapshot's packed text,
-- the commands that were executed since then, the pairs of later positions, and the snapshot being gathered, if any
pub record LearnerValue : Type 0 where
  pub whole : WholeValue
  pub snapshot_position : ℕ
  pub snapshot : List ℕ
  pub retained : List Command
  pub pairs : List Pair
  pub gathered : Option GatheredValue

-- how many positions are executed
abbrev pub executed : LearnerValue → ℕ
executed l = l.whole.roster.executed

-- how many positions ahead the members are known
abbrev pub alpha : LearnerValue → ℕ
alpha l = length l.whole.roster.sets

-- the invariant
pub record IsLearner (l : LearnerValue) : Type 0 where
  pub window : IsAlpha (alpha l)
  pub reaches : executed l ≡ l.snapshot_position + length l.retained
  pub some : 1 ≤ length l.snapshot
  pub room : length l.snapshot ≤ max_base
  pub kept : AreKept (executed l) (alpha l) l.pairs

-- it has adopted this state, and knows nothing more
abbrev pub begun : WholeValue → LearnerValue
begun w = record {
  whole = w;
  snapshot_position = w.roster.executed;
  snapshot = packed w;
  retained = [];
  pairs = [];
  gathered = None;
}

-- a pair of the position is to be kept: it is one of the next, up to twice alpha, and no other of it is kept
pub record IsWanted (l : LearnerValue) (i : ℕ) : Type 0 where
  pub above : executed l < i
  pub near : i ≤ executed l + 2 * alpha l
  pub new : (v : Command) → Contains l.pairs (i, v) → ⊥

-- with this pair
abbrev pub keeping : Pair → LearnerValue → LearnerValue
keeping p l = record {
  whole = l.whole;
  snapshot_position = l.snapshot_position;
  snapshot = l.snapshot;
  retained = l.retained;
  pairs = with_pair p l.pairs;
  gathered = l.gathered;
}

-- the command of the next position is kept
abbrev pub IsNext : LearnerValue → Command → Type 0
IsNext l v = Contains l.pairs (executed l + 1, v)

-- one position further with this command, whose pair goes
abbrev pub advanced : Meaning → Command → LearnerValue → LearnerValue
advanced m v l = record {
  whole = ran m v l.whole;
  snapshot_position = l.snapshot_position;
  snapshot = l.snapshot;
  retained = l.retained ++ v ∷ [];
  pairs = without (executed l + 1) l.pairs;
  gathered = l.gathered;
}

-- a snapshot of its state replaces the commands that it has executed
abbrev pub with_snapshot : LearnerValue → LearnerValue
with_snapshot l = record {
  whole = l.whole;
  snapshot_position = executed l;
  snapshot = packed l.whole;
  retained = [];
  pairs = l.pairs;
  gathered = l.gathered;
}

-- the position is executed, and above the snapshot
abbrev pub IsRetained : LearnerValue → ℕ → Type 0
IsRetained l i = (l.snapshot_position < i) × (i ≤ executed l)

-- the commands from there on, up to the last executed one, up to 16
abbrev pub decided_from : ℕ → LearnerValue → DecidedValue
decided_from first l =
    record { first = first; commands = take max_commands (drop (first - (l.snapshot_position + 1)) l.retained) }

-- how many bytes of a snapshot are gathered
abbrev pub gathered_bytes : Option GatheredValue → ℕ
gathered_bytes None = 0
gathered_bytes (Some g) = length g.bytes

-- what is wanted next: the next position, or the rest of the snapshot being gathered
abbrev pub wanted : LearnerValue → WantValue
wanted l = record { first = executed l + 1; offset = gathered_bytes l.gathered }
