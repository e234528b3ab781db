-- What a nudge makes a node of a world tell others, and throw away: so a node goes on that nobody would feed otherwise.
use Rattle.std.specs.Prelude.{◌≡◌, ◌≢◌, ℕ, ◌≤◌, true, List, None, ⊤}
use Rattle.lk_messages.specs.declared.message.NodeMessage.TheVariants as kinds
use Rattle.lk_members.specs.Ports.{is_named}
use Rattle.lk_state.specs.Meanings.{Meaning}
use Rattle.lk_node.specs.Nudging.{progress}
use Rattle.lk_node_interface.specs.Ticks.{is_full}
use Rattle.lk_node_interface.specs.declared.nudge_reason.NudgeReason.{NudgeReason}
use Rattle.lk_node_interface.specs.declared.nudge_reason.NudgeReason.TheVariants.{Period, TicksWithheld, Fed}
use Rattle.lk_replica.specs.ReplicaValue.{ReplicaValue}
use Rattle.lk_sim.specs.WorldStates.{WorldState}
use Rattle.lk_sim.specs.declared.event.Event.TheVariants as event
use Rattle.lk_world_feeding.specs.Asking.{ChangesOnly}
use Rattle.lk_world_progress.specs.Balloting.{HasSentTo}
use Rattle.lk_world_progress.specs.Stepping.{GoesWell, IsUpAs}

-- ---- it tells

-- it has heard of no leader for 28 ticks or cannot count them, and its nudge comes for no other reason than that time
-- has passed
abbrev pub HasWaited : NudgeReason → ReplicaValue → Type 0
HasWaited Period r = is_full r.node.ticks ≡ true
HasWaited TicksWithheld r = ⊤
HasWaited Fed r = ⊥

-- the node has no term, and has waited; the other one is of its window
pub record IsSilent (n other : ℕ) (reason : NudgeReason) (r : ReplicaValue) : Type 0 where
  pub idle : r.node.leader.term ≡ None
  pub waited : HasWaited reason r
  pub some : 1 ≤ other
  pub apart : other ≡ n → ⊥
  pub named : is_named other r.node.learner.whole.roster.sets ≡ true

-- it has told the other one how many positions it has executed, by a rejection of the least ballot
pub record TellsIn (n other : ℕ) (r : ReplicaValue) (old new : WorldState ReplicaValue) : Type 0 where
  pub now : ReplicaValue
  pub is : IsUpAs new n now
  pub whole : now.node.learner.whole ≡ r.node.learner.whole
  pub tells : HasSentTo new n other (kinds.Nack (progress r.node))
  pub only : ChangesOnly n old new

-- A nudge makes such a node tell each other node of its window how many positions it has executed.
abbrev pub SilentNodesTell : Meaning → (List ℕ → Type 0) → Type 0
SilentNodesTell m IsText = (old new : WorldState ReplicaValue) (n other : ℕ) (reason : NudgeReason) (r : ReplicaValue)
    → IsUpAs old n r → IsSilent n other reason r → GoesWell m IsText old (event.Nudge n reason) new
    → TellsIn n other r old new

-- ---- it throws away

-- the node has gathered nothing, and has executed the same as before
pub record ThrowsAway (n : ℕ) (r : ReplicaValue) (old new : WorldState ReplicaValue) : Type 0 where
  pub now : ReplicaValue
  pub is : IsUpAs new n now
  pub whole : now.node.learner.whole ≡ r.node.learner.whole
  pub gathered : now.node.learner.gathered ≡ None
  pub only : ChangesOnly n old new

-- Two nudges, with nothing between them, throw away what a node has gathered of a snapshot, unless one of them comes
-- because it was fed.
abbrev pub NudgesThrowAway : Meaning → (List ℕ → Type 0) → Type 0
NudgesThrowAway m IsText =
    (old mid new : WorldState ReplicaValue) (n : ℕ) (reason again : NudgeReason) (r : ReplicaValue)
    → IsUpAs old n r → (reason ≢ Fed) → (again ≢ Fed) → GoesWell m IsText old (event.Nudge n reason) mid
    → GoesWell m IsText mid (event.Nudge n again) new → ThrowsAway n r old new
