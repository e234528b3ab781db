-- A candidate begins ballots until nobody of its majority rejects one, and leads with that. Then it fills in the votes
-- that were reported to it.
use Rattle.std.specs.Prelude.{◌≡◌, ◌⊎◌, ℕ, ◌+◌, ◌≤◌, Option, Some, None, List, ◌∷◌, Contains}
use Rattle.lk_types.specs.declared.member.Member.{Member}
use Rattle.lk_types.specs.declared.vote.Vote.{Vote}
use Rattle.lk_messages.specs.Grammar.{Spells}
use Rattle.lk_messages.specs.declared.message.Content.TheVariants as content
use Rattle.lk_messages.specs.declared.message.Nack.{Nack}
use Rattle.lk_messages.specs.declared.message.NodeMessage.TheVariants as kinds
use Rattle.lk_agreement_laws.specs.Datagrams.{Datagram}
use Rattle.lk_state.specs.Meanings.{Meaning}
use Rattle.lk_leader.specs.Terms.{TermValue}
use Rattle.lk_learner.specs.Learners.{executed}
use Rattle.lk_replica.specs.ReplicaValue.{ReplicaValue}
use Rattle.lk_sim.specs.Refusals.{datagram_at}
use Rattle.lk_sim.specs.WorldStates.{WorldState}
use Rattle.lk_world_progress.specs.Stepping.{IsUpAs}
use Rattle.lk_world_leftovers.specs.Filling.{IsFilling, decided_by}
use Rattle.lk_world_leftovers.specs.Persisting.{IsNoRival}
use Rattle.lk_healing.specs.Contending.{AsksNothing, MayStand}
use Rattle.lk_healing.specs.Halts.{IsOnItsWay}
use Rattle.lk_healing.specs.declared.asking.Asking.{Asking}

-- ---- rejections

-- the datagram spells a rejection, of whatever node
pub record IsRejection (d : Datagram) : Type 0 where
  pub cluster : ℕ
  pub from : ℕ
  pub nack : Nack
  pub spelled : Spells (record { cluster = cluster; content = content.Node from (kinds.Nack nack) }) d.bytes

-- and stands at this place
abbrev pub IsRejectionAt : List Datagram → ℕ → Type 0
IsRejectionAt sent p = (d : Datagram) × (datagram_at sent p ≡ Some d) × IsRejection d

-- a datagram stands at each of these places
abbrev pub AreThere : List Datagram → List ℕ → Type 0
AreThere sent ps = (p : ℕ) → Contains ps p → (d : Datagram) × (datagram_at sent p ≡ Some d)

-- One of the others, a rival, has rejected the candidate's ballot, and is no rival of the next one. They may stand
-- again as before, and nobody has become a rival.
pub record IsRejectedBy (m : Meaning) (IsText : List ℕ → Type 0) (x : ℕ) (nodes : List ℕ)
    (old new : WorldState ReplicaValue) : Type 0 where
  pub stands : MayStand m IsText new x nodes
  pub rival : ℕ
  pub among : Contains stands.others rival
  pub was : IsNoRival old x rival → ⊥
  pub settled : IsNoRival new x rival
  pub stays : (n : ℕ) → Contains stands.others n → IsNoRival old x n → IsNoRival new x n
  pub asks : AsksNothing old new

-- ---- a leader

-- the datagram is this node's Accept of the vote, which is for the position and in the ballot that it has asked for
pub record IsOfferIn (d : Datagram) (x : ℕ) (asking : Asking) (i : ℕ) (v : Vote) : Type 0 where
  pub position : v.position ≡ i
  pub ballot : v.ballot ≡ asking.ballot
  pub spelled : Spells (record { cluster = asking.cluster; content = content.Node x (kinds.Accept v) }) d.bytes

-- and it is among what was sent
abbrev pub IsOffer : List Datagram → ℕ → Asking → ℕ → Vote → Type 0
IsOffer sent x asking i v = (d : Datagram) × Contains sent d × IsOfferIn d x asking i v

-- such a vote was decided, and each of the others was told so
pub record IsTold (w : WorldState ReplicaValue) (x : ℕ) (others : List ℕ) (asking : Asking) : Type 0 where
  pub vote : Vote
  pub offered : IsOffer w.sent x asking asking.first vote
  pub told : (n : ℕ) → Contains others n → IsOnItsWay w n
      (record { cluster = asking.cluster; content = content.Node x (kinds.Decided (decided_by vote)) })

-- The first of these nodes leads in the ballot that it has asked for, and fills up; the others vote. Its next position
-- is this one. The others have executed what the leader had when it began the ballot. If it has executed more since,
-- they were told of the first of these commands.
pub record FillsFrom (m : Meaning) (IsText : List ℕ → Type 0) (w : WorldState ReplicaValue) (x : ℕ) (nodes : List ℕ)
    (asking : Asking) (next : ℕ) : Type 0 where
  pub others : List ℕ
  pub are : nodes ≡ x ∷ others
  pub leader : ReplicaValue
  pub term : TermValue
  pub set : List Member
  pub last : ℕ
  pub fills : IsFilling m IsText w x leader term set others last
  pub cluster : asking.cluster ≡ w.genesis.cluster
  pub ballot : asking.ballot ≡ term.ballot
  pub next_is : next ≡ executed leader.node.learner + 1
  pub level : (n : ℕ) → Contains others n → (q : ReplicaValue) → IsUpAs w n q
      → executed q.node.learner + 1 ≡ asking.first
  pub reach : asking.first ≤ next
  pub told : (next ≡ asking.first) ⊎ IsTold w x others asking

-- the candidate leads, and nobody has asked anything meanwhile
pub record LeadsAfter (m : Meaning) (IsText : List ℕ → Type 0) (x : ℕ) (nodes : List ℕ)
    (old new : WorldState ReplicaValue) (asking : Asking) : Type 0 where
  pub fills : FillsFrom m IsText new x nodes asking asking.first
  pub asks : AsksNothing old new

-- what one ballot comes to: it leads, or one of them has rejected it
abbrev pub ComesToLead : (m : Meaning) (IsText : List ℕ → Type 0) (x : ℕ) (nodes : List ℕ)
    (old new : WorldState ReplicaValue) → Option Asking → Type 0
ComesToLead m IsText x nodes old new (Some asking) = LeadsAfter m IsText x nodes old new asking
ComesToLead m IsText x nodes old new None = IsRejectedBy m IsText x nodes old new
