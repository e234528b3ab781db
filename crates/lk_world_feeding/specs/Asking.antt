-- Single events by which a node that has executed less than another is fed: it asks, the other one sends commands, and
-- it executes them.
use Rattle.std.specs.Prelude.{◌≡◌, ◌≢◌, ◌⊎◌, ℕ, ◌+◌, ◌<◌, ◌≤◌, true, false, List, length, Some, None, Contains}
use Rattle.lk_types.specs.BallotValue.{BallotValue}
use Rattle.lk_types.specs.Ballots.{is_below}
use Rattle.lk_types.specs.Limits.{max_commands, max_count}
use Rattle.lk_messages.specs.Values.{DecidedValue, WantValue}
use Rattle.lk_messages.specs.declared.message.Content.TheVariants as content
use Rattle.lk_messages.specs.declared.message.Nack.{Nack}
use Rattle.lk_messages.specs.declared.message.NodeMessage.TheVariants as kinds
use Rattle.lk_members.specs.Ports.{is_named}
use Rattle.lk_agreement_laws.specs.Datagrams.{Datagram}
use Rattle.lk_state.specs.Meanings.{Meaning}
use Rattle.lk_learner.specs.Learners.{decided_from, executed, wanted}
use Rattle.lk_node_interface.specs.declared.nudge_reason.NudgeReason.{NudgeReason}
use Rattle.lk_node_interface.specs.declared.nudge_reason.NudgeReason.TheVariants.{Fed}
use Rattle.lk_node.specs.Reminding.{IsTermOf}
use Rattle.lk_replica.specs.ReplicaValue.{ReplicaValue}
use Rattle.lk_sim.specs.WorldStates.{WorldState}
use Rattle.lk_sim.specs.declared.event.Event.TheVariants as event
use Rattle.lk_sim_nodes.specs.declared.sim_node.RunState.{RunState}
use Rattle.lk_world_progress.specs.Balloting.{HasSentTo}
use Rattle.lk_world_progress.specs.Delivering.{Delivers, Hears}
use Rattle.lk_world_progress.specs.Stepping.{GoesWell, IsUpAs, Lives}

-- only this node has changed, and what was sent stays
pub record ChangesOnly (n : ℕ) (old new : WorldState ReplicaValue) : Type 0 where
  pub others : (k : ℕ) (run_state : RunState ReplicaValue) → (k ≡ n → ⊥) → Lives old k run_state → Lives new k run_state
  pub sent : (d : Datagram) → Contains old.sent d → Contains new.sent d
  pub genesis : new.genesis ≡ old.genesis

-- ---- it asks

-- the node hears, by a rejection, that the other one has executed more
abbrev pub IsRejected : Meaning → (List ℕ → Type 0) → ℕ → ℕ → ReplicaValue → WorldState ReplicaValue
    → WorldState ReplicaValue
    → Type 0
IsRejected m IsText n other r old new = (nack : Nack) × (executed r.node.learner < nack.executed)
    × Hears m IsText n (content.Node other (kinds.Nack nack)) old new

-- it hears so by the notice of a leader, whose ballot is not below the one that it has promised
abbrev pub IsNotified : Meaning → (List ℕ → Type 0) → ℕ → ℕ → ReplicaValue → WorldState ReplicaValue
    → WorldState ReplicaValue
    → Type 0
IsNotified m IsText n other r old new = (b : BallotValue) × (theirs : ℕ)
    × (is_below b r.node.acceptor.state.promised ≡ false) × (executed r.node.learner < theirs)
    × Hears m IsText n (content.Node other (kinds.Lead b theirs)) old new

-- it hears of more from the other one
abbrev pub HearsOfMore : Meaning → (List ℕ → Type 0) → ℕ → ℕ → ReplicaValue → WorldState ReplicaValue
    → WorldState ReplicaValue
    → Type 0
HearsOfMore m IsText n other r old new = IsRejected m IsText n other r old new ⊎ IsNotified m IsText n other r old new

-- it takes a nudge because it was fed; it has no term, and takes the other one for the leader
abbrev pub IsNudgedOn : Meaning → (List ℕ → Type 0) → ℕ → ℕ → ReplicaValue → WorldState ReplicaValue
    → WorldState ReplicaValue
    → Type 0
IsNudgedOn m IsText n other r old new = (r.node.leader.term ≡ None) × (r.node.known ≡ Some other) × (other ≡ n → ⊥)
    × (executed r.node.learner < max_count) × GoesWell m IsText old (event.Nudge n Fed) new

-- one of these makes it ask the other one, and takes nothing of what it has gathered
abbrev pub ComesToAskOn : Meaning → (List ℕ → Type 0) → ℕ → ℕ → ReplicaValue → WorldState ReplicaValue
    → WorldState ReplicaValue
    → Type 0
ComesToAskOn m IsText n other r old new =
    HearsOfMore m IsText n other r old new ⊎ IsNudgedOn m IsText n other r old new

-- it takes another nudge in a term, and the other one is of its window
abbrev pub IsNudged : Meaning → (List ℕ → Type 0) → ℕ → ℕ → ReplicaValue → WorldState ReplicaValue
    → WorldState ReplicaValue
    → Type 0
IsNudged m IsText n other r old new = (b : BallotValue) × (reason : NudgeReason) × (reason ≢ Fed)
    × IsTermOf b r.node.leader × (executed r.node.learner < max_count) × (1 ≤ other) × (other ≡ n → ⊥)
    × (is_named other r.node.learner.whole.roster.sets ≡ true) × GoesWell m IsText old (event.Nudge n reason) new

-- one of these makes it ask the other one
abbrev pub ComesToAsk : Meaning → (List ℕ → Type 0) → ℕ → ℕ → ReplicaValue → WorldState ReplicaValue
    → WorldState ReplicaValue
    → Type 0
ComesToAsk m IsText n other r old new = ComesToAskOn m IsText n other r old new ⊎ IsNudged m IsText n other r old new

-- It has asked the other one for what it lacks. It has executed the same as before, and has gathered the same of a
-- snapshot, or has thrown that away.
pub record AsksIn (n other : ℕ) (r : ReplicaValue) (old new : WorldState ReplicaValue) : Type 0 where
  pub now : ReplicaValue
  pub is : IsUpAs new n now
  pub whole : now.node.learner.whole ≡ r.node.learner.whole
  pub gathered : (now.node.learner.gathered ≡ r.node.learner.gathered) ⊎ (now.node.learner.gathered ≡ None)
  pub asks : HasSentTo new n other (kinds.Want (wanted now.node.learner))
  pub only : ChangesOnly n old new

abbrev pub NodesThatAreBehindAsk : Meaning → (List ℕ → Type 0) → Type 0
NodesThatAreBehindAsk m IsText = (old new : WorldState ReplicaValue) (n other : ℕ) (r : ReplicaValue) → IsUpAs old n r
    → ComesToAsk m IsText n other r old new → AsksIn n other r old new

-- What it hears, or a nudge because it was fed, takes nothing of what it has gathered.
abbrev pub AskersKeepGathered : Meaning → (List ℕ → Type 0) → Type 0
AskersKeepGathered m IsText = (old new : WorldState ReplicaValue) (n other : ℕ) (r : ReplicaValue) → IsUpAs old n r
    → ComesToAskOn m IsText n other r old new
    → (k : AsksIn n other r old new) × (k.now.node.learner.gathered ≡ r.node.learner.gathered)

-- ---- the other one sends commands

-- these are 16 commands from the position on, or all that are executed from there on
abbrev pub AreEnough : ReplicaValue → ℕ → DecidedValue → Type 0
AreEnough r first d =
    (length d.commands ≡ max_commands) ⊎ (first + length d.commands ≡ executed r.node.learner + 1)

-- it has sent the commands from the position on, and has the same learner as before
pub record SendsIn (n other : ℕ) (r : ReplicaValue) (first : ℕ) (old new : WorldState ReplicaValue) : Type 0 where
  pub now : ReplicaValue
  pub is : IsUpAs new n now
  pub learner : now.node.learner ≡ r.node.learner
  pub many : AreEnough r first (decided_from first r.node.learner)
  pub sends : HasSentTo new n other (kinds.Decided (decided_from first r.node.learner))
  pub only : ChangesOnly n old new

-- a node has executed the position, and keeps its command and all after it
pub record Keeps (r : ReplicaValue) (first : ℕ) : Type 0 where
  pub above : r.node.learner.snapshot_position < first
  pub there : first ≤ executed r.node.learner

-- A node that is asked for a position that it keeps sends the commands from there on.
abbrev pub AskedNodesSend : Meaning → (List ℕ → Type 0) → Type 0
AskedNodesSend m IsText = (old new : WorldState ReplicaValue) (n other : ℕ) (r : ReplicaValue) (want : WantValue)
    → IsUpAs old n r → Keeps r want.first → Delivers m IsText n (content.Node other (kinds.Want want)) old new
    → SendsIn n other r want.first old new

-- So does one that is rejected by a node that has executed less.
abbrev pub RejectedNodesSend : Meaning → (List ℕ → Type 0) → Type 0
RejectedNodesSend m IsText = (old new : WorldState ReplicaValue) (n other : ℕ) (r : ReplicaValue) (nack : Nack)
    → IsUpAs old n r → Keeps r (nack.executed + 1) → Delivers m IsText n (content.Node other (kinds.Nack nack)) old new
    → SendsIn n other r (nack.executed + 1) old new

-- ---- it executes them

-- it has executed all positions below this one
pub record ReachesIn (n i : ℕ) (old new : WorldState ReplicaValue) : Type 0 where
  pub now : ReplicaValue
  pub is : IsUpAs new n now
  pub reaches : i ≤ executed now.node.learner + 1
  pub only : ChangesOnly n old new

-- A node that takes commands, the first for its next position or an earlier one, has executed all of them.
abbrev pub SentCommandsAreExecuted : Meaning → (List ℕ → Type 0) → Type 0
SentCommandsAreExecuted m IsText =
    (old new : WorldState ReplicaValue) (n from : ℕ) (r : ReplicaValue) (d : DecidedValue)
    → IsUpAs old n r → d.first ≤ executed r.node.learner + 1
    → Hears m IsText n (content.Node from (kinds.Decided d)) old new
    → ReachesIn n (d.first + length d.commands) old new
