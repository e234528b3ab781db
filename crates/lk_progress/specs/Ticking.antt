-- Ticks in a row: who begins a ballot after enough of them, and who never speaks.
use Rattle.std.specs.Prelude.{◌≡◌, ℕ, ◌+◌, ◌*◌, ◌<◌, ◌≤◌, Some, None, []}
use Rattle.lk_types.specs.BallotValue.{BallotValue}
use Rattle.lk_types.specs.Limits.{max_count, max_members}
use Rattle.lk_node_interface.specs.Outboxes.{OutboxValue}
use Rattle.lk_node_interface.specs.Ticks.{ticks_a_member}
use Rattle.lk_node.specs.Beginning.{greatest_round}
use Rattle.lk_node.specs.NodeValue.{NodeValue}
use Rattle.lk_node.specs.Reminding.{IsTermOf, Ticks}
use Rattle.lk_node.specs.Waiting.{index_of}

-- ---- a candidate

-- the node takes this many ticks in a row, and nothing else
pub data TakesTicks (first : NodeValue) : ℕ → NodeValue → Type 0 where
  no_tick : TakesTicks first 0 first
  one_more : {k : ℕ} {mid new : NodeValue} (out : OutboxValue) → TakesTicks first k mid → Ticks mid new out
      → TakesTicks first (k + 1) new

-- it has a term: a ballot of it is in progress
abbrev pub HasTerm : NodeValue → Type 0
HasTerm node = (b : BallotValue) × IsTermOf b node.leader

-- it may begin a ballot: it is at this place among the members of the next position, and a round is left
pub record MayBegin (node : NodeValue) (index : ℕ) : Type 0 where
  pub member : index_of node ≡ Some index
  pub few : index < max_members
  pub round : greatest_round node < max_count

-- a member of the next position that hears nothing has a term after four ticks, and four more for each member before it
abbrev pub TicksBeginABallot : Type 0
TicksBeginABallot = (first last : NodeValue) (index k : ℕ) → MayBegin first index → TakesTicks first k last
    → ticks_a_member + ticks_a_member * index ≤ k → HasTerm last

-- ---- an outsider

-- the node has no term, and is no member of the next position, as far as it knows
pub record IsOutsider (node : NodeValue) : Type 0 where
  pub idle : node.leader.term ≡ None
  pub outside : index_of node ≡ None

-- it says nothing, and is still an outsider
pub record StaysSilent (new : NodeValue) (out : OutboxValue) : Type 0 where
  pub still : IsOutsider new
  pub no_envelopes : out.envelopes ≡ []

-- an outsider stays silent at each tick
abbrev pub OutsidersAreSilent : Type 0
OutsidersAreSilent = (old new : NodeValue) (out : OutboxValue) → IsOutsider old → Ticks old new out
    → StaysSilent new out
