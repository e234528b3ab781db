-- When a node begins a ballot, and the result.
use Rattle.std.specs.Prelude.{◌≡◌, ◌⊎◌, ℕ, ◌+◌, List}
use Rattle.lk_types.specs.BallotValue.{BallotValue}
use Rattle.lk_types.specs.Limits.{max_count}
use Rattle.lk_types.specs.declared.entry.Entry.TheVariants.{Promise}
use Rattle.lk_messages.specs.Grammar.{IsMessage}
use Rattle.lk_messages.specs.declared.message.NodeMessage.TheVariants as kinds
use Rattle.lk_agreement_laws.specs.Changes.{with_promise}
use Rattle.lk_acceptor.specs.States.{with_state}
use Rattle.lk_leader.specs.Terms.{begun, with_term}
use Rattle.lk_learner.specs.Learners.{executed}
use Rattle.lk_node_interface.specs.Outboxes.{OutboxValue, nothing, with_entry}
use Rattle.lk_node_interface.specs.Rounds.{greater_round, ballot_above}
use Rattle.lk_node_interface.specs.Saying.{saying}
use Rattle.lk_node.specs.NodeValue.{NodeValue}
use Rattle.lk_node.specs.Telling.{AreWindowNodes, telling}

-- ---- the ballot

-- the greatest round of the promised ballot and of those recorded
abbrev pub greatest_round : NodeValue → ℕ
greatest_round node = greater_round node.acceptor.state.promised node.rounds

-- the next ballot of the node: its round is above all these
abbrev pub next_ballot : NodeValue → BallotValue
next_ballot node = ballot_above node.acceptor.state.promised node.rounds node.header.node

-- the node after it has begun the ballot: its acceptor has promised it, and its leader has a term of it
abbrev pub beginning : BallotValue → NodeValue → NodeValue
beginning b node = record node {
  acceptor = with_state node.acceptor (with_promise node.acceptor.state b);
  leader = with_term (begun b) node.leader;
}

-- after the promise these nodes are asked for theirs, from the next position on, if there is one
abbrev pub AsksPromises : BallotValue → List ℕ → NodeValue → OutboxValue → Type 0
AsksPromises b nodes old out =
    (IsMessage (saying old.header (kinds.Prepare b (executed old.learner + 1)))
    × (out ≡ telling (beginning b old) nodes (kinds.Prepare b (executed old.learner + 1))
    (with_entry (Promise b) nothing)))
    ⊎ ((executed old.learner ≡ max_count) × (out ≡ with_entry (Promise b) nothing))

-- The node begins the ballot: its promise is written, and the nodes of the window are asked for theirs from the next
-- position on, if there is one.
pub record BeginsBallot (b : BallotValue) (old new : NodeValue) (out : OutboxValue) : Type 0 where
  pub becomes : new ≡ beginning b old
  pub nodes : List ℕ
  pub all : AreWindowNodes old nodes
  pub asks : AsksPromises b nodes old out
