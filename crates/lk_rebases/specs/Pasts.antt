-- What a node would be if its store had not been rebased. A rebase replaces votes and commands up to what the node has
-- executed by a snapshot. With what was replaced, the node does the same.
use Rattle.std.specs.Prelude.{◌≡◌, ℕ, ◌<◌, ◌≤◌, None, List}
use Rattle.lk_types.specs.declared.vote.Vote.{Vote}
use Rattle.lk_messages.specs.declared.message.Content.{Content}
use Rattle.lk_messages.specs.declared.message.Content.TheVariants as content
use Rattle.lk_messages.specs.declared.message.NodeMessage.TheVariants as kinds
use Rattle.lk_state.specs.Meanings.{Meaning}
use Rattle.lk_acceptor.specs.VoteLists.{votes_above}
use Rattle.lk_learner.specs.Learners.{Command, alpha, executed}
use Rattle.lk_node_interface.specs.Outboxes.{OutboxValue}
use Rattle.lk_node.specs.NewBases.{with_snapshot}
use Rattle.lk_node.specs.NodeValue.{NodeValue}
use Rattle.lk_node.specs.Reminding.{Ticks}
use Rattle.lk_progress.specs.Hearing.{Takes}

-- ---- what rebases replace

-- the votes and the position of an acceptor's snapshot, and the position, the text and the commands of a learner's
pub record Past : Type 0 where
  pub votes : List Vote
  pub below : ℕ
  pub position : ℕ
  pub text : List ℕ
  pub retained : List Command

-- the node with this past in place of its own
abbrev pub with_past : Past → NodeValue → NodeValue
with_past p node = record node {
  acceptor = record {
    alpha = node.acceptor.alpha;
    state = record { promised = node.acceptor.state.promised; votes = p.votes; snapshot_position = p.below };
  };
  learner = record {
    whole = node.learner.whole;
    snapshot_position = p.position;
    snapshot = p.text;
    retained = p.retained;
    pairs = node.learner.pairs;
    gathered = node.learner.gathered;
  };
}

abbrev pub past_of : NodeValue → Past
past_of node = record {
  votes = node.acceptor.state.votes;
  below = node.acceptor.state.snapshot_position;
  position = node.learner.snapshot_position;
  text = node.learner.snapshot;
  retained = node.learner.retained;
}

-- It differs from the node's own only up to what the node has executed.
pub record Fits (p : Past) (node : NodeValue) : Type 0 where
  pub some : 1 ≤ alpha node.learner
  pub below : p.below ≤ executed node.learner
  pub own : node.acceptor.state.snapshot_position ≤ executed node.learner
  pub votes : votes_above (executed node.learner) p.votes
      ≡ votes_above (executed node.learner) node.acceptor.state.votes

-- whatever has been replaced, another rebase leaves a node that it fits
abbrev pub FitsAfterRebase : Type 0
FitsAfterRebase = (p : Past) (node : NodeValue) → Fits p node → Fits p (with_snapshot node)

-- ---- a message

-- a request, a promise or an acceptance, or a Prepare or an Accept of positions above this one
abbrev pub IsPlain : ℕ → Content → Type 0
IsPlain e (content.Request r) = Unit {0}
IsPlain e (content.Node from (kinds.Prepare b first)) = e < first
IsPlain e (content.Node from (kinds.Accept x)) = e < x.position
IsPlain e (content.Node from (kinds.Promise p)) = Unit {0}
IsPlain e (content.Node from (kinds.Accepted x)) = Unit {0}
IsPlain e _ = ⊥

-- with what was replaced the node takes such a message in the same way, and sends and writes the same
abbrev pub RebaseChangesNothing : Meaning → (List ℕ → Type 0) → Type 0
RebaseChangesNothing m IsText = (p : Past) (x : Content) (old new : NodeValue) (out : OutboxValue) → Fits p old
    → IsPlain (executed old.learner) x → Takes m IsText old x new out
    → (q : Past) × Fits q new × Takes m IsText (with_past p old) x (with_past q new) out

-- a message after which the node has executed what it had: a request, a promise, a Prepare or an Accept
abbrev pub IsStatic : Content → Type 0
IsStatic (content.Request r) = Unit {0}
IsStatic (content.Node from (kinds.Prepare b first)) = Unit {0}
IsStatic (content.Node from (kinds.Accept x)) = Unit {0}
IsStatic (content.Node from (kinds.Promise p)) = Unit {0}
IsStatic _ = ⊥

abbrev pub StaticMessageMovesNothing : Meaning → (List ℕ → Type 0) → Type 0
StaticMessageMovesNothing m IsText = (x : Content) (old new : NodeValue) (out : OutboxValue) → IsStatic x
    → Takes m IsText old x new out → new.learner ≡ old.learner

-- ---- a tick

-- the same at a tick of a node without a term
abbrev pub RebaseChangesNoTick : Type 0
RebaseChangesNoTick = (p : Past) (old new : NodeValue) (out : OutboxValue) → Fits p old → old.leader.term ≡ None
    → Ticks old new out → Fits p new × Ticks (with_past p old) (with_past p new) out
