-- A candidate that has begun a ballot asks the nodes of its majority, and takes what they promise.
use Rattle.std.specs.Prelude.{◌≡◌, ℕ, suc, ◌+◌, Some, List, [], ◌∷◌, length, map}
use Rattle.lk_types.specs.declared.member.Member.{Member}
use Rattle.lk_messages.specs.Grammar.{Spells}
use Rattle.lk_messages.specs.declared.message.Content.{Content}
use Rattle.lk_agreement_laws.specs.Datagrams.{Datagram}
use Rattle.lk_agreement_laws.specs.declared.party.Party.TheVariants as party
use Rattle.lk_state.specs.Meanings.{Meaning}
use Rattle.lk_learner.specs.Learners.{executed}
use Rattle.lk_node.specs.Beginning.{next_ballot}
use Rattle.lk_replica.specs.ReplicaValue.{ReplicaValue}
use Rattle.lk_sim.specs.Refusals.{datagram_at}
use Rattle.lk_sim.specs.WorldStates.{WorldState}
use Rattle.lk_sim.specs.declared.event.Event.TheVariants as event
use Rattle.lk_world_progress.specs.Delivering.{Hears}
use Rattle.lk_world_progress.specs.Exchanging.{number_of}
use Rattle.lk_world_progress.specs.Stepping.{GoesWell}
use Rattle.lk_world_leftovers.specs.Collecting.{Collects, HasCollected, HasLeftovers}
use Rattle.lk_healing.specs.declared.asking.Asking.{Asking}

-- ---- places

-- Each of these nodes takes the content, one after another. What it then sends first, if anything, is to be at this
-- place.
abbrev pub HearsAt : Meaning → (List ℕ → Type 0) → Content → List ℕ → List ℕ → WorldState ReplicaValue
    → WorldState ReplicaValue → Type 0
HearsAt m IsText x [] [] old new = new ≡ old
HearsAt m IsText x [] (p ∷ ps) old new = ⊥
HearsAt m IsText x (n ∷ ns) [] old new = ⊥
HearsAt m IsText x (n ∷ ns) (p ∷ ps) old new =
    (mid : WorldState ReplicaValue) × Hears m IsText n x old mid × (p ≡ suc (length old.sent))
    × HearsAt m IsText x ns ps mid new

-- the datagram at this place has this content and is addressed to the node
abbrev pub StandsAt : WorldState ReplicaValue → ℕ → ℕ → Content → Type 0
StandsAt w n p x = (d : Datagram) × (datagram_at w.sent p ≡ Some d) × (d.to ≡ party.Node n)
    × Spells (record { cluster = w.genesis.cluster; content = x }) d.bytes

-- each of these, in order
abbrev pub StandAt : WorldState ReplicaValue → ℕ → List ℕ → List Content → Type 0
StandAt w n [] [] = Unit {0}
StandAt w n [] (x ∷ xs) = ⊥
StandAt w n (p ∷ ps) [] = ⊥
StandAt w n (p ∷ ps) (x ∷ xs) = StandsAt w n p x × StandAt w n ps xs

-- ---- the candidate

-- The first of these nodes was due, and has begun a ballot with the last tick. It and the others are a majority, and
-- may keep votes of earlier ballots, up to the last position. This is what it asks.
pub record HasBegun (m : Meaning) (IsText : List ℕ → Type 0) (x : ℕ) (nodes : List ℕ) (asking : Asking)
    (now : WorldState ReplicaValue) : Type 0 where
  pub candidate : ReplicaValue
  pub number : number_of candidate ≡ x
  pub others : List ReplicaValue
  pub are : nodes ≡ map number_of (candidate ∷ others)
  pub set : List Member
  pub highest : ℕ
  pub due : WorldState ReplicaValue
  pub leftovers : HasLeftovers m IsText due candidate set others highest
  pub ticks : GoesWell m IsText due (event.Tick (number_of candidate)) now
  pub cluster : asking.cluster ≡ now.genesis.cluster
  pub ballot : asking.ballot ≡ next_ballot candidate.node
  pub first : asking.first ≡ executed candidate.node.learner + 1

-- The candidate has heard all of them promise, and leads.
pub record LeadsNow (m : Meaning) (IsText : List ℕ → Type 0) (x : ℕ) (nodes : List ℕ) (asking : Asking)
    (old new : WorldState ReplicaValue) (k : HasBegun m IsText x nodes asking old) : Type 0 where
  pub run : Collects m IsText k.candidate k.others k.due new
  pub has : HasCollected m IsText k.candidate k.set k.others k.highest k.due new run
