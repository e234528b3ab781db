-- A node of a world that has executed less than another one is fed by it, after a rejection by which that one has told
-- how many positions it has executed.
use Rattle.std.specs.Prelude.{◌≡◌, ◌⊎◌, ℕ, zero, suc, ◌+◌, ◌<◌, ◌≤◌, true, None, Some, List, [], ◌∷◌, length, Contains}
use Rattle.lk_types.specs.Limits.{max_base, max_count, max_part}
use Rattle.lk_messages.specs.declared.message.NodeMessage.TheVariants as kinds
use Rattle.lk_members.specs.Rosters.{is_member}
use Rattle.lk_agreement_laws.specs.Datagrams.{Datagram}
use Rattle.lk_state.specs.Meanings.{Meaning}
use Rattle.lk_learner.specs.Learners.{GatheredValue, executed}
use Rattle.lk_node.specs.Beginning.{greatest_round}
use Rattle.lk_node.specs.Executing.{NothingToRun}
use Rattle.lk_node.specs.Nearness.{AreNear}
use Rattle.lk_node.specs.Nudging.{progress}
use Rattle.lk_replica.specs.ReplicaValue.{ReplicaValue}
use Rattle.lk_sim.specs.WorldStates.{WorldState}
use Rattle.lk_sim.specs.Traces.{asked_in}
use Rattle.lk_sim_nodes.specs.declared.sim_node.RunState.{RunState}
use Rattle.lk_world_progress.specs.Balloting.{HasSentTo}
use Rattle.lk_world_progress.specs.Delivering.{IsRested}
use Rattle.lk_world_progress.specs.Stepping.{Holds, IsUpAs, Lives}
use Rattle.lk_world_feeding.specs.Gathering.{IsOpenAt, count_of, position_of}
use Rattle.lk_world_leftovers.specs.Filling.{PairsUpTo}
use Rattle.lk_world_leftovers.specs.Fixed.{NobodyChanges}
use Rattle.lk_world_leftovers.specs.Persisting.{VotesUpTo}
use Rattle.lk_healing.specs.declared.progress.Progress.{Progress}

-- ---- places

-- those of so many datagrams after the first i
abbrev pub places_from : ℕ → ℕ → List ℕ
places_from i zero = []
places_from i (suc k) = suc i ∷ places_from (suc i) k

-- ---- who takes part

-- The node is a member of the genesis, and up as this replica. It has no term, nothing waits, and nothing is left to
-- execute. It has executed no position above the last one, and keeps no vote, and knows no pair, above that. A round is
-- left.
pub record MayGain (m : Meaning) (IsText : List ℕ → Type 0) (w : WorldState ReplicaValue) (last n : ℕ)
    (r : ReplicaValue) : Type 0 where
  pub holds : Holds m IsText w
  pub member : is_member n w.genesis.members ≡ true
  pub up : IsUpAs w n r
  pub idle : r.node.leader.term ≡ None
  pub waiting : r.node.leader.waiting ≡ []
  pub known : NothingToRun r.node
  pub near : AreNear r.node.acceptor r.node.learner
  pub within : executed r.node.learner ≤ last
  pub pairs : PairsUpTo r.node last
  pub votes : VotesUpTo r.node last
  pub round : greatest_round r.node < max_count

-- every other node is unchanged, what was sent stays, and nothing was asked
pub record RestsBut (b a : ℕ) (old new : WorldState ReplicaValue) : Type 0 where
  pub rests : (k : ℕ) (run_state : RunState ReplicaValue) → (k ≡ b → ⊥) → (k ≡ a → ⊥) → Lives old k run_state
      → Lives new k run_state
  pub sent : (d : Datagram) → Contains old.sent d → Contains new.sent d
  pub asked : asked_in new.trace ≡ asked_in old.trace
  pub genesis : new.genesis ≡ old.genesis

-- The first node has executed less than the second one, which has told it how much it has executed. What it has
-- gathered of a snapshot, if anything, is of the other one's, and was gathered since the last nudge. Neither has a
-- rebase due.
pub record MayFeed (m : Meaning) (IsText : List ℕ → Type 0) (w : WorldState ReplicaValue) (b a : ℕ) (told : Progress)
    : Type 0 where
  pub apart : b ≡ a → ⊥
  pub changes : NobodyChanges w
  pub last : ℕ
  pub behind : ReplicaValue
  pub own : MayGain m IsText w last b behind
  pub ahead : ReplicaValue
  pub other : MayGain m IsText w last a ahead
  pub less : executed behind.node.learner < executed ahead.node.learner
  pub tells : told.nack ≡ progress ahead.node
  pub cluster : told.cluster ≡ w.genesis.cluster
  pub sent : HasSentTo w a b (kinds.Nack told.nack)
  pub rested : IsRested w b
  pub other_rested : IsRested w a
  pub open_for : IsOpenAt behind (position_of ahead)
  pub room : (g : GatheredValue) → behind.node.learner.gathered ≡ Some g → g.total ≤ max_base
  pub remembers : behind.node.gathered_before ≡ count_of behind

-- ---- one exchange

-- it has gathered at least one part more of the other one's snapshot, and that is not whole yet
pub record HasGatheredMore (behind ahead after : ReplicaValue) : Type 0 where
  pub whole : after.node.learner.whole ≡ behind.node.learner.whole
  pub gathered : GatheredValue
  pub is : after.node.learner.gathered ≡ Some gathered
  pub position : gathered.position ≡ position_of ahead
  pub short : length gathered.bytes < gathered.total
  pub room : gathered.total ≤ max_base
  pub more : count_of behind + max_part ≤ length gathered.bytes
  pub before : after.node.gathered_before ≡ behind.node.gathered_before

-- It has executed more, or has gathered more. The other one has kept what it had.
pub record HasExchanged (m : Meaning) (IsText : List ℕ → Type 0) (b a : ℕ) (told : Progress)
    (old new : WorldState ReplicaValue) (k : MayFeed m IsText old b a told) : Type 0 where
  pub after : ReplicaValue
  pub own : MayGain m IsText new k.last b after
  pub gains : (executed k.behind.node.learner < executed after.node.learner) ⊎ HasGatheredMore k.behind k.ahead after
  pub other_after : ReplicaValue
  pub other : MayGain m IsText new k.last a other_after
  pub learner : other_after.node.learner ≡ k.ahead.node.learner
  pub other_rested : IsRested new a
  pub rests : RestsBut b a old new

-- ---- until it has executed more

pub record HasGained (m : Meaning) (IsText : List ℕ → Type 0) (b a : ℕ) (told : Progress)
    (old new : WorldState ReplicaValue) (k : MayFeed m IsText old b a told) : Type 0 where
  pub after : ReplicaValue
  pub own : MayGain m IsText new k.last b after
  pub gains : executed k.behind.node.learner < executed after.node.learner
  pub other_after : ReplicaValue
  pub other : MayGain m IsText new k.last a other_after
  pub learner : other_after.node.learner ≡ k.ahead.node.learner
  pub other_rested : IsRested new a
  pub rests : RestsBut b a old new
