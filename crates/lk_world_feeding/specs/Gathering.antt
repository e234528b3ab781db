-- Exchanges of two nodes of a world by which the one that has executed less is sent the other one's snapshot.
use Rattle.std.specs.Prelude.{◌≡◌, ◌⊎◌, ℕ, zero, suc, ◌+◌, ◌*◌, ◌<◌, ◌≤◌, Some, None, List, length, Contains}
use Rattle.lk_types.specs.Limits.{max_part}
use Rattle.lk_messages.specs.Values.{PartValue}
use Rattle.lk_messages.specs.declared.message.Content.TheVariants as content
use Rattle.lk_messages.specs.declared.message.NodeMessage.TheVariants as kinds
use Rattle.lk_state.specs.Meanings.{Meaning}
use Rattle.lk_learner.specs.Learners.{GatheredValue, executed, gathered_bytes, wanted}
use Rattle.lk_learner.specs.Parts.{AreParts, max_parts}
use Rattle.lk_progress.specs.Gathering.{GetsOn, HasFirst, parts_from}
use Rattle.lk_replica.specs.ReplicaValue.{ReplicaValue}
use Rattle.lk_sim.specs.WorldStates.{WorldState}
use Rattle.lk_world_feeding.specs.Asking.{ChangesOnly, ComesToAskOn}
use Rattle.lk_world_feeding.specs.Feeding.{CanBeFed, KeepsLearner, Later}
use Rattle.lk_world_progress.specs.Balloting.{HasSentTo}
use Rattle.lk_world_progress.specs.Delivering.{Delivers, DeliversInTurn}
use Rattle.lk_world_progress.specs.Stepping.{Holds, IsUpAs}

-- ---- one exchange

-- a replica's snapshot: its position and its text
abbrev pub position_of : ReplicaValue → ℕ
position_of r = r.node.learner.snapshot_position

abbrev pub text_of : ReplicaValue → List ℕ
text_of r = r.node.learner.snapshot

-- how many bytes of a snapshot it has gathered
abbrev pub count_of : ReplicaValue → ℕ
count_of r = gathered_bytes r.node.learner.gathered

-- the node has gathered nothing, or the first bytes of the other one's snapshot, and not all of it
abbrev pub HasGathered : ReplicaValue → ReplicaValue → Type 0
HasGathered behind ahead = (count_of behind < length (text_of ahead))
    × ((behind.node.learner.gathered ≡ None)
    ⊎ HasFirst behind.node.learner (position_of ahead) (text_of ahead) (count_of behind))

-- two nodes are up, and the second one's snapshot is above what the first one has executed
pub record NeedsSnapshot (m : Meaning) (IsText : List ℕ → Type 0) (w : WorldState ReplicaValue) (n other : ℕ)
    (behind ahead : ReplicaValue) : Type 0 where
  pub holds : Holds m IsText w
  pub apart : n ≡ other → ⊥
  pub up : IsUpAs w n behind
  pub other_up : IsUpAs w other ahead
  pub above : executed behind.node.learner < position_of ahead
  pub gathered : HasGathered behind ahead

-- The first node hears that the other one has executed more, or is nudged because it was fed, and asks the other one.
-- Later that one takes the question, and later the first one takes the parts that it sends, in order, and nothing else
-- among them. No rebase is due at the other node when it is asked, or at the first one when it takes a part.
pub record IsSentParts (m : Meaning) (IsText : List ℕ → Type 0) (n other : ℕ) (behind ahead : ReplicaValue)
    (first last : WorldState ReplicaValue) : Type 0 where
  pub asked : WorldState ReplicaValue
  pub comes : ComesToAskOn m IsText n other behind first asked
  pub served : WorldState ReplicaValue
  pub serves : Later n other (Delivers m IsText other (content.Node n (kinds.Want (wanted behind.node.learner)))) asked
      served
  pub parts : List PartValue
  pub are : AreParts (position_of ahead) (text_of ahead) (count_of behind) parts
  pub takes : Later n other (DeliversInTurn m IsText n (parts_from other parts)) served last

-- the node is up, and with the parts up to this byte it has got on: it has executed as much as the snapshot if that is
-- whole, and otherwise it has gathered its bytes up to there
abbrev pub HasGotOn : ℕ → ReplicaValue → ReplicaValue → ℕ → WorldState ReplicaValue → Type 0
HasGotOn n behind ahead reached w = (r : ReplicaValue) × IsUpAs w n r
    × GetsOn behind.node r.node (position_of ahead) (text_of ahead) reached

-- What was delivered had been sent. The parts are one at least; with them the first node has got on, and the other one
-- has kept what it had.
pub record GainsParts (m : Meaning) (IsText : List ℕ → Type 0) (n other : ℕ) (behind ahead : ReplicaValue)
    (first last : WorldState ReplicaValue) (k : IsSentParts m IsText n other behind ahead first last) : Type 0 where
  pub asks : HasSentTo k.asked n other (kinds.Want (wanted behind.node.learner))
  pub sends : (p : PartValue) → Contains k.parts p → HasSentTo k.served other n (kinds.Part p)
  pub some : 1 ≤ length k.parts
  pub gains : HasGotOn n behind ahead (count_of behind + length k.parts * max_part) last
  pub keeps : KeepsLearner other ahead last

-- A node that has executed less than another one's snapshot gets on by one exchange.
abbrev pub PartsFeed : Meaning → (List ℕ → Type 0) → Type 0
PartsFeed m IsText = (n other : ℕ) (behind ahead : ReplicaValue) (first last : WorldState ReplicaValue)
    → NeedsSnapshot m IsText first n other behind ahead → (k : IsSentParts m IsText n other behind ahead first last)
    → GainsParts m IsText n other behind ahead first last k

-- ---- several

-- there is such an exchange between these worlds
pub record IsSentSome (m : Meaning) (IsText : List ℕ → Type 0) (n other : ℕ) (old new : WorldState ReplicaValue)
    : Type 0 where
  pub behind : ReplicaValue
  pub ahead : ReplicaValue
  pub up : IsUpAs old n behind
  pub other_up : IsUpAs old other ahead
  pub once : IsSentParts m IsText n other behind ahead old new

-- so many such exchanges follow each other
abbrev pub IsSentPartsAgain : Meaning → (List ℕ → Type 0) → ℕ → ℕ → ℕ → WorldState ReplicaValue
    → WorldState ReplicaValue
    → Type 0
IsSentPartsAgain m IsText n other zero old new = new ≡ old
IsSentPartsAgain m IsText n other (suc k) old new = (mid : WorldState ReplicaValue)
    × Later n other (IsSentSome m IsText n other) old mid × IsSentPartsAgain m IsText n other k mid new

-- After as many exchanges as the rest of the snapshot needs, of up to 8 parts of 1,024 bytes each, the node has
-- executed as much as the snapshot.
abbrev pub PartsAreWhole : Meaning → (List ℕ → Type 0) → Type 0
PartsAreWhole m IsText = (n other : ℕ) (behind ahead : ReplicaValue) (k : ℕ) (first last : WorldState ReplicaValue)
    → NeedsSnapshot m IsText first n other behind ahead
    → count_of behind + k * (max_parts * max_part) < length (text_of ahead)
    → length (text_of ahead) ≤ count_of behind + suc k * (max_parts * max_part)
    → IsSentPartsAgain m IsText n other (suc k) first last
    → (r : ReplicaValue) × IsUpAs last n r × (position_of ahead ≤ executed r.node.learner)

-- ---- one way or the other

-- the node has gathered nothing, or a snapshot at this position, and not all of it
abbrev pub IsOpenAt : ReplicaValue → ℕ → Type 0
IsOpenAt r i =
    (g : GatheredValue) → r.node.learner.gathered ≡ Some g → (g.position ≡ i) × (length g.bytes < g.total)

-- The node is open for the snapshot of the part, and has executed the same as before.
pub record LeavesOlder (n : ℕ) (p : PartValue) (r : ReplicaValue) (old new : WorldState ReplicaValue) : Type 0 where
  pub now : ReplicaValue
  pub is : IsUpAs new n now
  pub open_for : IsOpenAt now p.position
  pub whole : now.node.learner.whole ≡ r.node.learner.whole
  pub only : ChangesOnly n old new

-- A node that has gathered part of an older snapshot, and takes a later part of a newer one, throws the older away.
abbrev pub NewerPartsBeginAnew : Meaning → (List ℕ → Type 0) → Type 0
NewerPartsBeginAnew m IsText = (old new : WorldState ReplicaValue) (n from : ℕ) (r : ReplicaValue) (g : GatheredValue)
    (p : PartValue) → IsUpAs old n r → r.node.learner.gathered ≡ Some g → g.position < p.position
    → executed r.node.learner < p.position → 1 ≤ p.offset → 1 ≤ p.total
    → Delivers m IsText n (content.Node from (kinds.Part p)) old new → LeavesOlder n p r old new

-- So each node can be fed by any other: by commands, or by its snapshot. What was gathered at the position of that
-- snapshot is the beginning of its text, whoever sent it.
abbrev pub AllCanBeFed : Meaning → (List ℕ → Type 0) → Type 0
AllCanBeFed m IsText = (w : WorldState ReplicaValue) (n other : ℕ) (behind ahead : ReplicaValue) → Holds m IsText w
    → (n ≡ other → ⊥) → IsUpAs w n behind → IsUpAs w other ahead → IsOpenAt behind (position_of ahead)
    → CanBeFed m IsText w n other behind ahead ⊎ NeedsSnapshot m IsText w n other behind ahead
