-- A leader fills in one position after another, until no vote is reported at its next position or above it. Then the
-- others catch up.
use Rattle.std.specs.Prelude.{◌≡◌, ℕ, ◌+◌, ◌<◌, ◌==◌, if◌then◌else◌, false, List, [], ◌∷◌, Contains}
use Rattle.lk_types.specs.declared.member.Member.{Member}
use Rattle.lk_types.specs.declared.vote.Vote.{Vote}
use Rattle.lk_state.specs.Meanings.{Meaning}
use Rattle.lk_leader.specs.Terms.{TermValue}
use Rattle.lk_leader.specs.Values.{has_vote_from}
use Rattle.lk_learner.specs.Learners.{executed}
use Rattle.lk_node_interface.specs.declared.note.Note.{Note}
use Rattle.lk_node_interface.specs.declared.note.Note.TheVariants as note
use Rattle.lk_replica.specs.ReplicaValue.{ReplicaValue}
use Rattle.lk_sim.specs.WorldStates.{WorldState}
use Rattle.lk_world_leftovers.specs.Exchanging.{ReachesNext}
use Rattle.lk_world_leftovers.specs.Filling.{IsFilling, IsNextVote}
use Rattle.lk_healing.specs.Contending.{AsksNothing}
use Rattle.lk_healing.specs.Standing.{FillsFrom, IsOffer}
use Rattle.lk_healing.specs.declared.asking.Asking.{Asking}

-- the last position that these notes tell the node has executed, or e if they tell of none
abbrev pub last_ran : ℕ → ℕ → List Note → ℕ
last_ran n e [] = e
last_ran n e (note.Ran k i v ∷ notes) = last_ran n (if k == n then i else e) notes
last_ran n e (_ ∷ notes) = last_ran n e notes

-- the leader fills from this position on, and has proposed this vote there
pub record OffersFrom (m : Meaning) (IsText : List ℕ → Type 0) (w : WorldState ReplicaValue) (x : ℕ) (nodes : List ℕ)
    (asking : Asking) (next : ℕ) (v : Vote) : Type 0 where
  pub fills : FillsFrom m IsText w x nodes asking next
  pub proposed : IsNextVote fills.leader.node fills.term v
  pub offer : IsOffer w.sent x asking next v

-- it has filled one position at least, and nobody has asked anything
pub record FillsOnce (m : Meaning) (IsText : List ℕ → Type 0) (x : ℕ) (nodes : List ℕ) (asking : Asking) (next : ℕ)
    (old new : WorldState ReplicaValue) (after : ℕ) : Type 0 where
  pub fills : FillsFrom m IsText new x nodes asking after
  pub more : next < after
  pub asks : AsksNothing old new

-- no vote is left to fill in
pub record IsFilledAt (m : Meaning) (IsText : List ℕ → Type 0) (w : WorldState ReplicaValue) (x : ℕ) (nodes : List ℕ)
    (asking : Asking) (next : ℕ) : Type 0 where
  pub fills : FillsFrom m IsText w x nodes asking next
  pub none_left : has_vote_from fills.term.received next ≡ false

-- and nobody has asked anything meanwhile
pub record HasFilled (m : Meaning) (IsText : List ℕ → Type 0) (x : ℕ) (nodes : List ℕ) (asking : Asking)
    (old new : WorldState ReplicaValue) (next : ℕ) : Type 0 where
  pub filled : IsFilledAt m IsText new x nodes asking next
  pub asks : AsksNothing old new

-- Besides, the leader's next position is one of the next 2 alpha of each of the others.
pub record IsLedAt (m : Meaning) (IsText : List ℕ → Type 0) (w : WorldState ReplicaValue) (x : ℕ) (nodes : List ℕ)
    (asking : Asking) (next : ℕ) : Type 0 where
  pub others : List ℕ
  pub are : nodes ≡ x ∷ others
  pub leader : ReplicaValue
  pub term : TermValue
  pub set : List Member
  pub last : ℕ
  pub fills : IsFilling m IsText w x leader term set others last
  pub cluster : asking.cluster ≡ w.genesis.cluster
  pub ballot : asking.ballot ≡ term.ballot
  pub next_is : next ≡ executed leader.node.learner + 1
  pub none_left : has_vote_from term.received next ≡ false
  pub reaches : (n : ℕ) → Contains others n → ReachesNext w leader n

-- the others have caught up, and nobody has asked anything
pub record HasCaughtUp (m : Meaning) (IsText : List ℕ → Type 0) (x : ℕ) (nodes : List ℕ) (asking : Asking)
    (next : ℕ) (old new : WorldState ReplicaValue) : Type 0 where
  pub led : IsLedAt m IsText new x nodes asking next
  pub asks : AsksNothing old new
