-- What a node with a term repeats as time passes.
use Rattle.std.specs.Prelude.{◌≡◌, ◌⊎◌, ℕ, ◌+◌, ◌≤◌, Some, None, List}
use Rattle.lk_types.specs.BallotValue.{BallotValue}
use Rattle.lk_types.specs.Limits.{max_count}
use Rattle.lk_types.specs.declared.vote.Vote.{Vote}
use Rattle.lk_messages.specs.Grammar.{IsMessage}
use Rattle.lk_messages.specs.declared.message.NodeMessage.{NodeMessage}
use Rattle.lk_messages.specs.declared.message.NodeMessage.TheVariants as kinds
use Rattle.lk_leader.specs.Acceptances.{IsOpen, yet_to_accept}
use Rattle.lk_leader.specs.Terms.{ProposalValue, TermValue, LeaderValue, silent_among}
use Rattle.lk_learner.specs.Learners.{executed, alpha}
use Rattle.lk_node_interface.specs.Outboxes.{OutboxValue, nothing}
use Rattle.lk_node_interface.specs.Saying.{saying}
use Rattle.lk_node.specs.NodeValue.{NodeValue}
use Rattle.lk_node.specs.Leading.{ProposesOpen}
use Rattle.lk_node.specs.Waiting.{ticked, BeginsWhereDue}
use Rattle.lk_node.specs.Telling.{AreWindowNodes, AreOthers, telling}

-- the leader has a term of this ballot
abbrev pub IsTermOf : BallotValue → LeaderValue → Type 0
IsTermOf b leader = (k : TermValue) × (leader.term ≡ Some k) × (k.ballot ≡ b)

-- these get this message, which fits into a datagram
abbrev pub TellsThese : NodeValue → List ℕ → NodeMessage → OutboxValue → OutboxValue → Type 0
TellsThese node nodes message before out =
    IsMessage (saying node.header message) × (out ≡ telling node nodes message before)

-- ---- the promises

-- the nodes of the window whose promise the term does not have, in rising order
abbrev pub AreSilent : NodeValue → List ℕ → Type 0
AreSilent node ns = (all : List ℕ) × AreWindowNodes node all × (ns ≡ silent_among node.leader.term all)

-- they are asked again from the next position on, if there is one
abbrev pub AsksAgain : NodeValue → BallotValue → OutboxValue → OutboxValue → Type 0
AsksAgain node b before out =
    ((nodes : List ℕ) × AreSilent node nodes
    × TellsThese node nodes (kinds.Prepare b (executed node.learner + 1)) before out)
    ⊎ ((executed node.learner ≡ max_count) × (out ≡ before))

-- ---- the proposals

abbrev pub vote_for : BallotValue → ℕ → ProposalValue → Vote
vote_for b i p = record { position = i; ballot = b; command = p.command }

-- what is open at the position is repeated to the members of the position that have not been heard to accept it
abbrev pub OffersAgain : NodeValue → BallotValue → ℕ → OutboxValue → OutboxValue → Type 0
OffersAgain node b i before out =
    ((p : ProposalValue) × (o : IsOpen node.leader node.learner.whole.roster i p)
    × TellsThese node (yet_to_accept o.set p.accepted) (kinds.Accept (vote_for b i p)) before out)
    ⊎ (((p : ProposalValue) → IsOpen node.leader node.learner.whole.roster i p → ⊥) × (out ≡ before))

-- the same at the position this far after the next one, if there is one
abbrev pub OffersAhead : NodeValue → BallotValue → ℕ → OutboxValue → OutboxValue → Type 0
OffersAhead node b ahead before out =
    OffersAgain node b (executed node.learner + 1 + ahead) before out
    ⊎ ((max_count ≤ executed node.learner + ahead) × (out ≡ before))

-- the same at this many first positions of the window, in order
pub data OffersFirst (node : NodeValue) (b : BallotValue) (before : OutboxValue) : ℕ → OutboxValue → Type 0 where
  none_offered : OffersFirst node b before 0 before
  one_offered : {k : ℕ} {mid out : OutboxValue} → OffersFirst node b before k mid → OffersAhead node b k mid out
      → OffersFirst node b before (k + 1) out

-- the same at all positions of the window
abbrev pub OffersAll : NodeValue → BallotValue → OutboxValue → OutboxValue → Type 0
OffersAll node b before out = OffersFirst node b before (alpha node.learner) out

-- ---- the notice

-- the other nodes of the window are told who leads, and how far it has executed
abbrev pub TellsLead : NodeValue → BallotValue → OutboxValue → OutboxValue → Type 0
TellsLead node b before out =
    (nodes : List ℕ) × AreOthers node nodes × TellsThese node nodes (kinds.Lead b (executed node.learner)) before out

-- ---- a tick in a term

-- Nodes that have not promised are asked again, what is open is repeated, what can be proposed is, and the others are
-- told who leads.
pub record Reminds (b : BallotValue) (old new : NodeValue) (out : OutboxValue) : Type 0 where
  pub asked : OutboxValue
  pub asks : AsksAgain old b nothing asked
  pub offered : OutboxValue
  pub offers : OffersAll old b asked offered
  pub proposed : OutboxValue
  pub proposes : ProposesOpen old new offered proposed
  pub leads : TellsLead new b proposed out

-- the result of a tick: with a term the node reminds the others of it, without one it waits for a leader
abbrev pub Ticks : NodeValue → NodeValue → OutboxValue → Type 0
Ticks old new out =
    ((b : BallotValue) × IsTermOf b old.leader × Reminds b old new out)
    ⊎ ((old.leader.term ≡ None) × BeginsWhereDue (ticked old) new out)
