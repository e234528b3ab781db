-- A candidate that is rejected goes above what it hears of: with its next ballot it has one rival less.
use Rattle.std.specs.Prelude.{◌≡◌, ℕ, true, Some, None, List, ◌∷◌, Contains}
use Rattle.lk_types.specs.BallotValue.{BallotValue}
use Rattle.lk_types.specs.Ballots.{is_below, IsAtMost, IsBelow}
use Rattle.lk_messages.specs.declared.message.Content.TheVariants as content
use Rattle.lk_messages.specs.declared.message.Nack.{Nack}
use Rattle.lk_messages.specs.declared.message.NodeMessage.TheVariants as kinds
use Rattle.lk_state.specs.Meanings.{Meaning}
use Rattle.lk_leader.specs.Terms.{TermValue}
use Rattle.lk_node.specs.Beginning.{next_ballot}
use Rattle.lk_node.specs.CatchingUp.{refusal}
use Rattle.lk_progress.specs.Electing.{IsDue}
use Rattle.lk_progress.specs.Exchanges.{prepare_by}
use Rattle.lk_replica.specs.ReplicaValue.{ReplicaValue}
use Rattle.lk_sim.specs.WorldStates.{WorldState}
use Rattle.lk_sim.specs.declared.event.Event.TheVariants as event
use Rattle.lk_world_progress.specs.Balloting.{HasSentTo}
use Rattle.lk_world_progress.specs.Delivering.{AreDistinct, Hears, HearsEach}
use Rattle.lk_world_progress.specs.Exchanging.{number_of}
use Rattle.lk_world_progress.specs.Stepping.{GoesWell, Holds, IsUpAs}

-- ---- a rejection

-- The node's next ballot is above the promised one that it hears of, and not below what it was. A term of a smaller
-- ballot than that promised one has ended.
pub record GoesAboveIn (n : ℕ) (r : ReplicaValue) (nack : Nack) (new : WorldState ReplicaValue) : Type 0 where
  pub after : ReplicaValue
  pub is : IsUpAs new n after
  pub next : IsBelow nack.promised (next_ballot after.node)
  pub least : IsAtMost (next_ballot r.node) (next_ballot after.node)
  pub ends : (t : TermValue) → r.node.leader.term ≡ Some t → is_below t.ballot nack.promised ≡ true
      → after.node.leader.term ≡ None

-- a node to which a rejection is delivered goes above it
abbrev pub DeliveredNackRaises : Meaning → (List ℕ → Type 0) → Type 0
DeliveredNackRaises m IsText = (old new : WorldState ReplicaValue) (n : ℕ) (r : ReplicaValue) (from : ℕ) (nack : Nack)
    → IsUpAs old n r → Hears m IsText n (content.Node from (kinds.Nack nack)) old new → GoesAboveIn n r nack new

-- ---- the rivals of a candidate

-- the node is up, and has promised a ballot above this one
pub record IsRival (w : WorldState ReplicaValue) (b : BallotValue) (n : ℕ) : Type 0 where
  pub replica : ReplicaValue
  pub up : IsUpAs w n replica
  pub above : IsBelow b replica.node.acceptor.state.promised

-- A candidate is due, and takes a tick. These others, which are up, take its Prepare. One of them is a rival of its
-- ballot, and the candidate takes that node's rejection. Nothing else happens meanwhile.
pub record IsRejected (m : Meaning) (IsText : List ℕ → Type 0) (c : ReplicaValue) (others : List ℕ) (rival : ℕ)
    (first last : WorldState ReplicaValue) : Type 0 where
  pub holds : Holds m IsText first
  pub up : IsUpAs first (number_of c) c
  pub due : IsDue c.node
  pub distinct : AreDistinct (number_of c ∷ others)
  pub others_up : (n : ℕ) → Contains others n → (r : ReplicaValue) × IsUpAs first n r
  pub ticked : WorldState ReplicaValue
  pub ticks : GoesWell m IsText first (event.Tick (number_of c)) ticked
  pub asked : WorldState ReplicaValue
  pub asks : HearsEach m IsText (content.Node (number_of c) (prepare_by c.node)) others ticked asked
  pub among : Contains others rival
  pub is_rival : IsRival first (next_ballot c.node) rival
  pub tells : Hears m IsText (number_of c)
      (content.Node rival (kinds.Nack (refusal (next_ballot c.node) is_rival.replica.node))) asked last

-- the rejection was sent before it is taken; of the others each rival of its next ballot was one of the last, and the
-- one that has rejected is a rival no longer
pub record HasFewerRivals (m : Meaning) (IsText : List ℕ → Type 0) (c : ReplicaValue) (others : List ℕ) (rival : ℕ)
    (first last : WorldState ReplicaValue) (k : IsRejected m IsText c others rival first last) : Type 0 where
  pub sent : HasSentTo k.asked rival (number_of c)
      (kinds.Nack (refusal (next_ballot c.node) k.is_rival.replica.node))
  pub after : ReplicaValue
  pub is : IsUpAs last (number_of c) after
  pub least : IsAtMost (next_ballot c.node) (next_ballot after.node)
  pub fewer : (n : ℕ) → Contains others n → IsRival last (next_ballot after.node) n
      → IsRival first (next_ballot c.node) n
  pub less : IsRival last (next_ballot after.node) rival → ⊥

abbrev pub RejectedCandidateHasFewerRivals : Meaning → (List ℕ → Type 0) → Type 0
RejectedCandidateHasFewerRivals m IsText = (c : ReplicaValue) (others : List ℕ) (rival : ℕ)
    (first last : WorldState ReplicaValue) (k : IsRejected m IsText c others rival first last)
    → HasFewerRivals m IsText c others rival first last k
