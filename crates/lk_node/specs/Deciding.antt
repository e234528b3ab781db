-- How a node counts a vote, and what follows if that decides a position.
use Rattle.std.specs.Prelude.{◌≡◌, ◌⊎◌, ℕ, Option, Some, None, List, map}
use Rattle.lk_types.specs.declared.member.Member.{Member}
use Rattle.lk_types.specs.declared.vote.Vote.{Vote}
use Rattle.lk_messages.specs.Grammar.{IsMessage}
use Rattle.lk_state.specs.Meanings.{Meaning}
use Rattle.lk_leader.specs.Acceptances.{IsVoteFor, heard_at, GainsMajority}
use Rattle.lk_leader.specs.Terms.{TermValue, ProposalValue, with_term, with_proposals}
use Rattle.lk_learner.specs.Learners.{Pair}
use Rattle.lk_node_interface.specs.Envelopes.{EnvelopeValue}
use Rattle.lk_node_interface.specs.DecidedMessages.{decided_message}
use Rattle.lk_node_interface.specs.Outboxes.{OutboxValue, nothing, with_note, with_envelopes}
use Rattle.lk_node_interface.specs.Saying.{saying}
use Rattle.lk_node_interface.specs.declared.note.Note.TheVariants as note
use Rattle.lk_node.specs.Executing.{RunsAll}
use Rattle.lk_node.specs.Learning.{Learns}
use Rattle.lk_node.specs.NodeValue.{NodeValue}
use Rattle.lk_node.specs.Telling.{AreOthers, envelope_to}

-- ---- the vote

-- the vote is for what the leader's term has proposed, in its ballot, at a position of the window
pub record IsForProposal (node : NodeValue) (x : Vote) : Type 0 where
  pub term : TermValue
  pub current : node.leader.term ≡ Some term
  pub set : List Member
  pub proposal : ProposalValue
  pub vote : IsVoteFor term node.learner.whole.roster x.ballot x.position x.command set proposal

-- the node after it has heard that this one cast the vote
abbrev pub with_vote : (from : ℕ) (x : Vote) (node : NodeValue) → IsForProposal node x → NodeValue
with_vote from x node k =
    record node {
      leader = with_term
          (with_proposals (heard_at k.set from x.position k.term.proposals) k.term) node.leader;
    }

-- with that a majority of the position's members has accepted the proposal, and had not before
abbrev pub BringsMajority : (from : ℕ) (x : Vote) (node : NodeValue) → IsForProposal node x → Type 0
BringsMajority from x node k = GainsMajority k.set from k.proposal

-- the vote is heard and completes no majority: it is kept, or nothing changes if it is for no proposal
abbrev pub IsOnlyHeard : ℕ → Vote → NodeValue → NodeValue → Type 0
IsOnlyHeard from x old new =
    ((k : IsForProposal old x) × (BringsMajority from x old k → ⊥) × (new ≡ with_vote from x old k))
    ⊎ ((IsForProposal old x → ⊥) × (new ≡ old))

-- the vote is heard, and the members of its position are returned if with that a majority of them has accepted
abbrev pub HandlesVote : ℕ → Vote → NodeValue → NodeValue → Option (List Member) → Type 0
HandlesVote from x old new None = IsOnlyHeard from x old new
HandlesVote from x old new (Some set) =
    (k : IsForProposal old x) × BringsMajority from x old k × (k.set ≡ set) × (new ≡ with_vote from x old k)

-- ---- the pair is decided

-- envelopes to the window's other nodes that tell them of the pair
pub record AreDecidedEnvelopes (node : NodeValue) (p : Pair) (envelopes : List EnvelopeValue) : Type 0 where
  pub nodes : List ℕ
  pub others : AreOthers node nodes
  pub fits : IsMessage (saying node.header (decided_message p))
  pub comes_to : envelopes ≡ map (envelope_to node (decided_message p)) nodes

-- The pair is decided, by a majority of this set: that is noted, the pair is learned, everything that can be is
-- executed, and the other nodes of the earlier window are told.
pub record Decides (m : Meaning) (set : List Member) (p : Pair) (old : NodeValue) (before : OutboxValue)
    (new : NodeValue) (after : OutboxValue) : Type 0 where
  pub learned : NodeValue
  pub written : OutboxValue
  pub learns : Learns p old (with_note (note.Counted old.header.node p.0 set p.1) before) learned written
  pub ran : OutboxValue
  pub runs : RunsAll m learned written new ran
  pub envelopes : List EnvelopeValue
  pub told : AreDecidedEnvelopes old p envelopes
  pub comes_to : after ≡ with_envelopes envelopes ran

-- a node was heard to accept: if with that a majority has, the pair is decided; otherwise nothing follows
abbrev pub HandlesAccepted : Meaning → ℕ → Vote → NodeValue → NodeValue → OutboxValue → Type 0
HandlesAccepted m from x old new out =
    ((k : IsForProposal old x) × BringsMajority from x old k
    × Decides m k.set (x.position, x.command) (with_vote from x old k) nothing new out)
    ⊎ (IsOnlyHeard from x old new × (out ≡ nothing))
