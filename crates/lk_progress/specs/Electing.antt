-- How a candidate that is not behind becomes the leader: it asks the nodes of its window, and leads as soon as a
-- majority of the members of its next position has promised. A rejected one goes on above the ballot that it hears of.
use Rattle.std.specs.Prelude.{◌≡◌, ℕ, ◌+◌, ◌<◌, ◌≤◌, true, Some, None, List, map, Contains}
use Rattle.lk_types.specs.Ballots.{is_below, IsBelow}
use Rattle.lk_types.specs.Limits.{max_count}
use Rattle.lk_types.specs.declared.member.Member.{Member}
use Rattle.lk_messages.specs.Values.{PromiseValue}
use Rattle.lk_messages.specs.declared.message.Content.{Content}
use Rattle.lk_messages.specs.declared.message.Content.TheVariants as content
use Rattle.lk_messages.specs.declared.message.Nack.{Nack}
use Rattle.lk_messages.specs.declared.message.NodeMessage.TheVariants as kinds
use Rattle.lk_members.specs.Majorities.{IsMajority}
use Rattle.lk_members.specs.Ports.{is_named}
use Rattle.lk_state.specs.Meanings.{Meaning}
use Rattle.lk_leader.specs.Proposing.{AreMembersAt, Leads}
use Rattle.lk_leader.specs.Terms.{ReceivedPromise, TermValue}
use Rattle.lk_learner.specs.Learners.{executed}
use Rattle.lk_node_interface.specs.Envelopes.{EnvelopeValue}
use Rattle.lk_node_interface.specs.Outboxes.{OutboxValue}
use Rattle.lk_node_interface.specs.Ticks.{is_enough}
use Rattle.lk_node.specs.Beginning.{beginning, greatest_round, next_ballot}
use Rattle.lk_node.specs.NodeValue.{NodeValue}
use Rattle.lk_node.specs.Reminding.{Ticks}
use Rattle.lk_node.specs.Telling.{envelope_to}
use Rattle.lk_node.specs.Waiting.{index_of, ticked}
use Rattle.lk_progress.specs.Hearing.{Hears, TakesEach}

-- ---- it asks

-- the node has waited long enough for a leader with this tick, and a round and a position are left
pub record IsDue (node : NodeValue) : Type 0 where
  pub idle : node.leader.term ≡ None
  pub waited : is_enough (ticked node).ticks (index_of node) ≡ true
  pub round : greatest_round node < max_count
  pub position : executed node.learner < max_count

-- it has a term of its next ballot, and has asked each node that its window names for a promise from the next position
-- on
pub record AsksWindow (old new : NodeValue) (out : OutboxValue) : Type 0 where
  pub becomes : new ≡ beginning (next_ballot old) (ticked old)
  pub told : (n : ℕ) → 1 ≤ n → is_named n old.learner.whole.roster.sets ≡ true → Contains out.envelopes
      (envelope_to old (kinds.Prepare (next_ballot old) (executed old.learner + 1)) n)

abbrev pub DueNodeAsks : Type 0
DueNodeAsks = (old new : NodeValue) (out : OutboxValue) → IsDue old → Ticks old new out → AsksWindow old new out

-- ---- it is promised

-- the datagrams by which nodes promise this
abbrev pub promises : List (ℕ × PromiseValue) → List Content
promises heard = map (λ h. content.Node h.0 (kinds.Promise h.1)) heard

-- the promises are of the term's ballot, and from the next position on or an earlier one; and so are those that the
-- term has
pub record AreUsable (node : NodeValue) (t : TermValue) (heard : List (ℕ × PromiseValue)) : Type 0 where
  pub ballot : (h : ℕ × PromiseValue) → Contains heard h → h.1.ballot ≡ t.ballot
  pub first : (h : ℕ × PromiseValue) → Contains heard h → h.1.first ≤ executed node.learner + 1
  pub before : (q : ReceivedPromise) → Contains t.received q → q.first ≤ executed node.learner + 1

-- a node with a term that hears a majority of the next position's members promise, in any order, leads
abbrev pub PromisedNodeLeads : Meaning → (List ℕ → Type 0) → Type 0
PromisedNodeLeads m IsText = (old new : NodeValue) (t : TermValue) (set : List Member)
    (heard : List (ℕ × PromiseValue)) (envelopes : List EnvelopeValue) → old.leader.term ≡ Some t
    → AreMembersAt old.learner.whole.roster (executed old.learner + 1) set → executed old.learner < max_count
    → AreUsable old t heard → IsMajority (map (λ h. h.0) heard) set
    → TakesEach m IsText (promises heard) old new envelopes → Leads new.leader new.learner.whole.roster

-- ---- it is rejected

-- The next ballot of a node is above each promised one that it hears of by a rejection. A term of a smaller one ends.
pub record GoesAbove (old : NodeValue) (nack : Nack) (new : NodeValue) : Type 0 where
  pub next : IsBelow nack.promised (next_ballot new)
  pub ends : (t : TermValue) → old.leader.term ≡ Some t → is_below t.ballot nack.promised ≡ true
      → new.leader.term ≡ None

abbrev pub RejectedNodeGoesAbove : Meaning → (List ℕ → Type 0) → Type 0
RejectedNodeGoesAbove m IsText = (old new : NodeValue) (from : ℕ) (nack : Nack) (out : OutboxValue)
    → Hears m IsText old from (kinds.Nack nack) new out → GoesAbove old nack new
