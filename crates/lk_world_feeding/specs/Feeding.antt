-- Exchanges of two nodes of a world by which the one that has executed less is sent the other one's commands.
use Rattle.std.specs.Prelude.{◌≡◌, ℕ, zero, suc, ◌+◌, ◌*◌, ◌<◌, ◌≤◌, List, length}
use Rattle.lk_types.specs.Limits.{max_commands}
use Rattle.lk_messages.specs.Values.{DecidedValue}
use Rattle.lk_messages.specs.declared.message.Content.TheVariants as content
use Rattle.lk_messages.specs.declared.message.Nack.{Nack}
use Rattle.lk_messages.specs.declared.message.NodeMessage.TheVariants as kinds
use Rattle.lk_state.specs.Meanings.{Meaning}
use Rattle.lk_learner.specs.Learners.{decided_from, executed, wanted}
use Rattle.lk_replica.specs.ReplicaValue.{ReplicaValue}
use Rattle.lk_sim.specs.WorldStates.{WorldState}
use Rattle.lk_world_feeding.specs.Asking.{AreEnough, ComesToAsk}
use Rattle.lk_world_progress.specs.Balloting.{HasSentTo}
use Rattle.lk_world_progress.specs.Delivering.{Delivers, Hears}
use Rattle.lk_world_progress.specs.Stepping.{Holds, IsUpAs}

-- ---- one exchange

-- two nodes are up, and the second one keeps every command that it has executed and the first one has not
pub record CanBeFed (m : Meaning) (IsText : List ℕ → Type 0) (w : WorldState ReplicaValue) (n other : ℕ)
    (behind ahead : ReplicaValue) : Type 0 where
  pub holds : Holds m IsText w
  pub apart : n ≡ other → ⊥
  pub up : IsUpAs w n behind
  pub other_up : IsUpAs w other ahead
  pub kept : ahead.node.learner.snapshot_position ≤ executed behind.node.learner

-- the commands that the second one then sends: those after what the first one has executed, up to 16
abbrev pub commands_for : ReplicaValue → ReplicaValue → DecidedValue
commands_for behind ahead = decided_from (executed behind.node.learner + 1) ahead.node.learner

-- the node is up, and has the learner that this replica had
abbrev pub KeepsLearner : ℕ → ReplicaValue → WorldState ReplicaValue → Type 0
KeepsLearner n r w = (q : ReplicaValue) × IsUpAs w n q × (q.node.learner ≡ r.node.learner)

-- The event happens after others, whatever these are, if both nodes are still up when it does, and their learners are
-- unchanged.
pub record Later (n other : ℕ) (Happens : WorldState ReplicaValue → WorldState ReplicaValue → Type 0)
    (old new : WorldState ReplicaValue) : Type 0 where
  pub mid : WorldState ReplicaValue
  pub rests : (r : ReplicaValue) → IsUpAs old n r → KeepsLearner n r mid
  pub other_rests : (r : ReplicaValue) → IsUpAs old other r → KeepsLearner other r mid
  pub genesis : mid.genesis ≡ old.genesis
  pub happens : Happens mid new

-- The first node comes to ask the other one. Later that one takes the question, and later the first one takes the
-- commands that it sends. The other one has no rebase due when it is asked.
pub record IsFedOnce (m : Meaning) (IsText : List ℕ → Type 0) (n other : ℕ) (behind ahead : ReplicaValue)
    (first last : WorldState ReplicaValue) : Type 0 where
  pub asked : WorldState ReplicaValue
  pub comes : ComesToAsk m IsText n other behind first asked
  pub asking : ReplicaValue
  pub up : IsUpAs asked n asking
  pub served : WorldState ReplicaValue
  pub serves : Later n other (Delivers m IsText other (content.Node n (kinds.Want (wanted asking.node.learner)))) asked
      served
  pub takes : Later n other (Hears m IsText n (content.Node other (kinds.Decided (commands_for behind ahead)))) served
      last

-- the node is up, and has executed all positions below this one
abbrev pub HasReached : ℕ → ℕ → WorldState ReplicaValue → Type 0
HasReached n i w = (r : ReplicaValue) × IsUpAs w n r × (i ≤ executed r.node.learner + 1)

-- What was delivered had been sent. The commands are one at least, and 16 unless they are all; the first node has
-- executed them, and the other one has kept what it had.
pub record GainsCommands (m : Meaning) (IsText : List ℕ → Type 0) (n other : ℕ) (behind ahead : ReplicaValue)
    (first last : WorldState ReplicaValue) (k : IsFedOnce m IsText n other behind ahead first last) : Type 0 where
  pub asks : HasSentTo k.asked n other (kinds.Want (wanted k.asking.node.learner))
  pub sends : HasSentTo k.served other n (kinds.Decided (commands_for behind ahead))
  pub some : 1 ≤ length (commands_for behind ahead).commands
  pub many : AreEnough ahead (executed behind.node.learner + 1) (commands_for behind ahead)
  pub gains : HasReached n (executed behind.node.learner + 1 + length (commands_for behind ahead).commands) last
  pub keeps : KeepsLearner other ahead last

-- A node that has executed less than another one, which keeps what it lacks, gains by one exchange.
abbrev pub ExchangesFeed : Meaning → (List ℕ → Type 0) → Type 0
ExchangesFeed m IsText = (n other : ℕ) (behind ahead : ReplicaValue) (first last : WorldState ReplicaValue)
    → CanBeFed m IsText first n other behind ahead → executed behind.node.learner < executed ahead.node.learner
    → (k : IsFedOnce m IsText n other behind ahead first last)
    → GainsCommands m IsText n other behind ahead first last k

-- ---- several

-- there is such an exchange between these worlds
pub record IsFed (m : Meaning) (IsText : List ℕ → Type 0) (n other : ℕ) (old new : WorldState ReplicaValue)
    : Type 0 where
  pub behind : ReplicaValue
  pub ahead : ReplicaValue
  pub up : IsUpAs old n behind
  pub other_up : IsUpAs old other ahead
  pub once : IsFedOnce m IsText n other behind ahead old new

-- so many such exchanges follow each other
abbrev pub IsFedAgain : Meaning → (List ℕ → Type 0) → ℕ → ℕ → ℕ → WorldState ReplicaValue
    → WorldState ReplicaValue → Type 0
IsFedAgain m IsText n other zero old new = new ≡ old
IsFedAgain m IsText n other (suc k) old new = (mid : WorldState ReplicaValue)
    × Later n other (IsFed m IsText n other) old mid × IsFedAgain m IsText n other k mid new

-- the node is up, and has executed as much as this replica had
abbrev pub HasCaughtUp : ℕ → ReplicaValue → WorldState ReplicaValue → Type 0
HasCaughtUp n ahead w =
    (r : ReplicaValue) × IsUpAs w n r × (executed ahead.node.learner ≤ executed r.node.learner)

-- After one exchange for each 16 commands that it lacks, the node has executed as much as the other one.
abbrev pub ExchangesCatchUp : Meaning → (List ℕ → Type 0) → Type 0
ExchangesCatchUp m IsText = (n other : ℕ) (behind ahead : ReplicaValue) (k : ℕ) (first last : WorldState ReplicaValue)
    → CanBeFed m IsText first n other behind ahead
    → executed ahead.node.learner ≤ executed behind.node.learner + k * max_commands
    → IsFedAgain m IsText n other k first last → HasCaughtUp n ahead last

-- ---- by a rejection

-- The other node, whose message the first one has rejected, takes the rejection, and later the first one takes the
-- commands that it sends. The rejection tells what the first one had executed by then.
pub record IsFedUnasked (m : Meaning) (IsText : List ℕ → Type 0) (n other : ℕ) (nack : Nack) (ahead : ReplicaValue)
    (first last : WorldState ReplicaValue) : Type 0 where
  pub served : WorldState ReplicaValue
  pub serves : Delivers m IsText other (content.Node n (kinds.Nack nack)) first served
  pub takes : Later n other (Hears m IsText n
      (content.Node other (kinds.Decided (decided_from (nack.executed + 1) ahead.node.learner)))) served last

pub record GainsUnasked (m : Meaning) (IsText : List ℕ → Type 0) (n other : ℕ) (nack : Nack) (ahead : ReplicaValue)
    (first last : WorldState ReplicaValue) (k : IsFedUnasked m IsText n other nack ahead first last) : Type 0 where
  pub sends : HasSentTo k.served other n (kinds.Decided (decided_from (nack.executed + 1) ahead.node.learner))
  pub some : 1 ≤ length (decided_from (nack.executed + 1) ahead.node.learner).commands
  pub many : AreEnough ahead (nack.executed + 1) (decided_from (nack.executed + 1) ahead.node.learner)
  pub gains : HasReached n
      (nack.executed + 1 + length (decided_from (nack.executed + 1) ahead.node.learner).commands) last
  pub keeps : KeepsLearner other ahead last

-- A node that rejects a message of one that has executed more, which keeps what it lacks, gains the same way without
-- asking.
abbrev pub RejectionsFeed : Meaning → (List ℕ → Type 0) → Type 0
RejectionsFeed m IsText =
    (n other : ℕ) (nack : Nack) (behind ahead : ReplicaValue) (first last : WorldState ReplicaValue)
    → CanBeFed m IsText first n other behind ahead → ahead.node.learner.snapshot_position ≤ nack.executed
    → nack.executed ≤ executed behind.node.learner → nack.executed < executed ahead.node.learner
    → (k : IsFedUnasked m IsText n other nack ahead first last)
    → GainsUnasked m IsText n other nack ahead first last k
