-- A candidate feeds others of its majority, and is fed by others, until nobody is ahead of it, and the positions of the
-- votes that are left are among the next ones of each.
use Rattle.std.specs.Prelude.{◌≡◌, ◌⊎◌, ℕ, suc, ◌+◌, ◌*◌, ◌<◌, ◌≤◌, ◌==◌, if◌then◌else◌, List, [], ◌∷◌, Contains}
use Rattle.lk_types.specs.Limits.{max_commands}
use Rattle.lk_state.specs.Meanings.{Meaning}
use Rattle.lk_learner.specs.Learners.{alpha, executed}
use Rattle.lk_replica.specs.ReplicaValue.{ReplicaValue}
use Rattle.lk_sim.specs.WorldStates.{WorldState}
use Rattle.lk_world_progress.specs.Beginning.{IsNewWorld}
use Rattle.lk_world_progress.specs.Exchanging.{number_of}
use Rattle.lk_world_progress.specs.Stepping.{IsUpAs}
use Rattle.lk_world_feeding.specs.Feeding.{CanBeFed}
use Rattle.lk_world_feeding.specs.Gathering.{IsOpenAt, NeedsSnapshot, position_of}
use Rattle.lk_world_leftovers.specs.Lagging.{AllLast, Feeds, IsFedBy, MayContend}
use Rattle.lk_world_leftovers.specs.Persisting.{Contends}
use Rattle.lk_world_leftovers.specs.Snapshots.{TakesParts}

-- ---- one after another

-- the candidate feeds another node commands, or is fed by it, or it sends that node parts of its snapshot, or is sent
-- parts of that one's
pub data Feeding : Type 0 where
  feeds : ℕ → Feeding
  is_fed_by : ℕ → Feeding
  sends_parts : ℕ → Feeding
  is_sent_parts_by : ℕ → Feeding

abbrev pub partner : Feeding → ℕ
partner (feeds n) = n
partner (is_fed_by n) = n
partner (sends_parts n) = n
partner (is_sent_parts_by n) = n

abbrev pub Happens : Meaning → (List ℕ → Type 0) → ℕ → Feeding → WorldState ReplicaValue
    → WorldState ReplicaValue → Type 0
Happens m IsText x (feeds n) old new = Feeds m IsText x n old new
Happens m IsText x (is_fed_by n) old new = IsFedBy m IsText x n old new
Happens m IsText x (sends_parts n) old new = TakesParts m IsText n x old new
Happens m IsText x (is_sent_parts_by n) old new = TakesParts m IsText x n old new

-- These follow one another. Before each of them anything may happen, if the candidate and the others last.
abbrev pub FeedInTurn : Meaning → (List ℕ → Type 0) → ℕ → List ℕ → List Feeding → WorldState ReplicaValue
    → WorldState ReplicaValue → Type 0
FeedInTurn m IsText x others [] old new = new ≡ old
FeedInTurn m IsText x others (f ∷ fs) old new =
    (ready : WorldState ReplicaValue) × (mid : WorldState ReplicaValue) × AllLast m IsText x others old ready
    × Contains others (partner f) × Happens m IsText x f ready mid × FeedInTurn m IsText x others fs mid new

-- how often the candidate feeds this node commands, and how often it is fed commands by it
abbrev pub times_to : ℕ → List Feeding → ℕ
times_to n [] = 0
times_to n (feeds k ∷ fs) = if k == n then suc (times_to n fs) else times_to n fs
times_to n (is_fed_by k ∷ fs) = times_to n fs
times_to n (sends_parts k ∷ fs) = times_to n fs
times_to n (is_sent_parts_by k ∷ fs) = times_to n fs

abbrev pub times_by : ℕ → List Feeding → ℕ
times_by n [] = 0
times_by n (feeds k ∷ fs) = times_by n fs
times_by n (is_fed_by k ∷ fs) = if k == n then suc (times_by n fs) else times_by n fs
times_by n (sends_parts k ∷ fs) = times_by n fs
times_by n (is_sent_parts_by k ∷ fs) = times_by n fs

-- this node is fed nothing
abbrev pub IsNotFed : ℕ → List Feeding → Type 0
IsNotFed n [] = Unit {0}
IsNotFed n (feeds k ∷ fs) = (k ≡ n → ⊥) × IsNotFed n fs
IsNotFed n (is_fed_by k ∷ fs) = IsNotFed n fs
IsNotFed n (sends_parts k ∷ fs) = (k ≡ n → ⊥) × IsNotFed n fs
IsNotFed n (is_sent_parts_by k ∷ fs) = IsNotFed n fs

-- how often the candidate is fed commands
abbrev pub times_fed : List Feeding → ℕ
times_fed [] = 0
times_fed (feeds k ∷ fs) = times_fed fs
times_fed (is_fed_by k ∷ fs) = suc (times_fed fs)
times_fed (sends_parts k ∷ fs) = times_fed fs
times_fed (is_sent_parts_by k ∷ fs) = times_fed fs

-- The candidate has executed f positions by now, and nobody has executed fewer than before. All of them may contend as
-- before. None was fed commands more often than there are positions up to the last one that it had not executed. If the
-- candidate was fed by a node once for each 16 commands that it lacked, and that node was not fed meanwhile, then that
-- one is not ahead of it any more. If a node was fed once for each 16 commands that the candidate had executed and it
-- had not, it has executed as much as that.
pub record HaveFed (m : Meaning) (IsText : List ℕ → Type 0) (x e : ℕ) (others : List ℕ) (last : ℕ)
    (fs : List Feeding) (old new : WorldState ReplicaValue) : Type 0 where
  pub f : ℕ
  pub may : MayContend m IsText new x f others last
  pub grows : e ≤ f
  pub rises : (n : ℕ) → Contains others n → (r q : ReplicaValue) → IsUpAs old n r → IsUpAs new n q
      → executed r.node.learner ≤ executed q.node.learner
  pub few : e + times_fed fs ≤ last
  pub few_to : (n : ℕ) → Contains others n → (r : ReplicaValue) → IsUpAs old n r
      → executed r.node.learner + times_to n fs ≤ last
  pub passes : (n : ℕ) → Contains others n → (r q : ReplicaValue) → IsUpAs old n r → IsUpAs new n q
      → IsNotFed n fs → executed r.node.learner ≤ e + times_by n fs * max_commands → executed q.node.learner ≤ f
  pub reaches : (n : ℕ) → Contains others n → (r q : ReplicaValue) → IsUpAs old n r → IsUpAs new n q
      → e ≤ executed r.node.learner + times_to n fs * max_commands → e ≤ executed q.node.learner

abbrev pub ExchangesFeedAll : Meaning → (List ℕ → Type 0) → Type 0
ExchangesFeedAll m IsText =
    (x e : ℕ) (others : List ℕ) (last : ℕ) (fs : List Feeding) (old new : WorldState ReplicaValue)
    → MayContend m IsText old x e others last → FeedInTurn m IsText x others fs old new
    → HaveFed m IsText x e others last fs old new

-- ---- until all are level

-- nobody of the others has executed more than the candidate, and each position up to the last one is one of the next 2
-- alpha of each of them
pub record AreLevel (w : WorldState ReplicaValue) (x : ℕ) (others : List ℕ) (last : ℕ) : Type 0 where
  pub behind : (n : ℕ) → Contains others n → (c r : ReplicaValue) → IsUpAs w x c → IsUpAs w n r
      → executed r.node.learner ≤ executed c.node.learner
  pub reaches : (n : ℕ) → Contains others n → (r : ReplicaValue) → IsUpAs w n r
      → last ≤ executed r.node.learner + 2 * alpha r.node.learner

-- then they contend
abbrev pub LevelNodesContend : Meaning → (List ℕ → Type 0) → Type 0
LevelNodesContend m IsText = (x e : ℕ) (others : List ℕ) (last : ℕ) (w : WorldState ReplicaValue)
    → MayContend m IsText w x e others last → AreLevel w x others last → Contends m IsText w x e e others last

-- ---- while they are not

-- the first node has executed less than the other one, and can be fed by it: by commands, or by its snapshot
pub record CanGain (m : Meaning) (IsText : List ℕ → Type 0) (w : WorldState ReplicaValue) (n other : ℕ) : Type 0 where
  pub behind : ReplicaValue
  pub ahead : ReplicaValue
  pub less : executed behind.node.learner < executed ahead.node.learner
  pub way : CanBeFed m IsText w n other behind ahead ⊎ NeedsSnapshot m IsText w n other behind ahead

-- what each of these nodes has gathered, if anything, is of the other one's snapshot
abbrev pub AreOpen : WorldState ReplicaValue → List ℕ → Type 0
AreOpen w nodes = (j k : ℕ) → Contains nodes j → Contains nodes k → (r q : ReplicaValue) → IsUpAs w j r
    → IsUpAs w k q → IsOpenAt r (position_of q)

-- one of these nodes has executed so much
abbrev pub HasExecuted : WorldState ReplicaValue → List ℕ → ℕ → Type 0
HasExecuted w nodes most = (n : ℕ) × Contains nodes n
    × ((r : ReplicaValue) × IsUpAs w n r × (most ≤ executed r.node.learner))

-- If the last position is 2 alpha above what one of them has executed, they are level, or the candidate can be fed by
-- another one, or another one by the candidate.
abbrev pub UnlevelNodesCanBeFed : Meaning → (List ℕ → Type 0) → Type 0
UnlevelNodesCanBeFed m IsText = (x e : ℕ) (others : List ℕ) (most : ℕ) (w : WorldState ReplicaValue)
    → MayContend m IsText w x e others (most + 2 * w.genesis.alpha) → HasExecuted w (x ∷ others) most
    → AreOpen w (x ∷ others) → AreLevel w x others (most + 2 * w.genesis.alpha)
    ⊎ ((n : ℕ) × Contains others n × (CanGain m IsText w x n ⊎ CanGain m IsText w n x))

-- ---- a new cluster

-- its nodes are level, since nothing is executed
abbrev pub NewWorldsAreLevel : Meaning → (List ℕ → Type 0) → Type 0
NewWorldsAreLevel m IsText =
    (w : WorldState ReplicaValue) (candidate : ReplicaValue) (index ticks : ℕ) (others : List ℕ)
    → IsNewWorld m IsText w candidate index ticks others
    → MayContend m IsText w (number_of candidate) 0 others (2 * w.genesis.alpha)
    × AreLevel w (number_of candidate) others (2 * w.genesis.alpha)
