-- What a contract sees of a leader.
pub use Rattle.lk_types.specs.BallotValue.{BallotValue}
use Rattle.lk_types.specs.Ballots.{is_below}
pub use Rattle.lk_members.specs.Effects.{Command, RequestValue}
pub use Rattle.lk_agreement_laws.specs.Soundness.{ReceivedPromise}
use Rattle.std.specs.List.{list_any}
use Rattle.lk_members.specs.Ports.{is_named}
use Rattle.lk_members.specs.Windows.{RosterValue}
use Rattle.std.specs.Prelude.{◌≡◌, ℕ, Bool, true, false, not, ◌==◌, ◌+◌, ◌&&◌, nat_lt, nat_le, Option, Some, None, List}
use Rattle.std.specs.Prelude.{[], ◌∷◌, ◌++◌, filter, find}

-- a command that was proposed at a position, and the members of the position that have been heard to accept it
pub record ProposalValue : Type 0 where
  pub position : ℕ
  pub command : Command
  pub accepted : List ℕ

-- a ballot in progress: the first promise of each node, in order, and what was proposed, as far as it is kept
pub record TermValue : Type 0 where
  pub ballot : BallotValue
  pub received : List ReceivedPromise
  pub proposals : List ProposalValue

-- the term, if any, and the requests that wait
pub record LeaderValue : Type 0 where
  pub term : Option TermValue
  pub waiting : List RequestValue

-- no ballot, and nothing waits
abbrev pub new_leader : LeaderValue
new_leader = record { term = None; waiting = [] }

-- there is a term, of a smaller ballot
abbrev pub is_term_below : BallotValue → Option TermValue → Bool
is_term_below b None = false
is_term_below b (Some t) = is_below t.ballot b

-- a ballot in which nothing is promised or proposed
abbrev pub begun : BallotValue → TermValue
begun b = record { ballot = b; received = []; proposals = [] }

abbrev pub with_received : ReceivedPromise → TermValue → TermValue
with_received r t = record { ballot = t.ballot; received = t.received ++ r ∷ []; proposals = t.proposals }

abbrev pub with_proposals : List ProposalValue → TermValue → TermValue
with_proposals ps t = record { ballot = t.ballot; received = t.received; proposals = ps }

-- the proposal at the position
abbrev pub proposal_at : ℕ → List ProposalValue → Option ProposalValue
proposal_at i ps = find (λ p. p.position == i) ps

-- those at this many positions after the executed ones
abbrev pub in_window : ℕ → ℕ → List ProposalValue → List ProposalValue
in_window executed alpha ps = filter (λ p. nat_lt executed p.position && nat_le p.position (executed + alpha)) ps

-- the leader in this term
abbrev pub with_term : TermValue → LeaderValue → LeaderValue
with_term t l = record { term = Some t; waiting = l.waiting }

-- one of the promises is the node's
abbrev pub is_promiser : ℕ → List ReceivedPromise → Bool
is_promiser node received = list_any (λ r. r.node == node) received

abbrev pub has_term : Option TermValue → Bool
has_term None = false
has_term (Some t) = true

-- the term, if any, has a promise of the node
abbrev pub has_promise_of : Option TermValue → ℕ → Bool
has_promise_of None k = false
has_promise_of (Some t) k = is_promiser k t.received

-- the nodes whose promise the term does not have
abbrev pub silent_among : Option TermValue → List ℕ → List ℕ
silent_among term nodes = filter (λ k. not (has_promise_of term k)) nodes

-- a promise of the node is kept in the term: it is of the term's ballot, of a node of the window, and its first
pub record IsFirstOf (l : LeaderValue) (roster : RosterValue) (node : ℕ) (b : BallotValue)
    (t : TermValue) : Type 0 where
  pub current : l.term ≡ Some t
  pub ballot : t.ballot ≡ b
  pub named : is_named node roster.sets ≡ true
  pub first : is_promiser node t.received ≡ false
