-- What a node does as a leader.
use Rattle.std.specs.Prelude.{◌≡◌, ◌⊎◌, ℕ, Bool, true, false, List, [], ◌∷◌, Some}
use Rattle.lk_types.specs.declared.vote.Vote.{Vote}
use Rattle.lk_messages.specs.Values.{PromiseValue}
use Rattle.lk_messages.specs.declared.message.NodeMessage.TheVariants as kinds
use Rattle.lk_leader.specs.Proposing.{Proposes, proposed}
use Rattle.lk_leader.specs.Terms.{ReceivedPromise, TermValue, LeaderValue, with_term, with_received, IsFirstOf}
use Rattle.lk_members.specs.Nodes.{nodes_of}
use Rattle.lk_node_interface.specs.Outboxes.{OutboxValue, nothing}
use Rattle.lk_node.specs.NodeValue.{NodeValue}
use Rattle.lk_node.specs.Proposed.{ProposesNothing}
use Rattle.lk_node.specs.Telling.{telling}

abbrev pub with_leader : NodeValue → LeaderValue → NodeValue
with_leader node l = record node { leader = l }

-- ---- a promise

-- what the promise of the node reports
abbrev pub received_from : ℕ → PromiseValue → ReceivedPromise
received_from from p = record { node = from; first = p.first; votes = p.votes }

-- it is kept if it is of the term's ballot, of a node of the window, and that node's first
abbrev pub RecordsPromise : NodeValue → ℕ → PromiseValue → NodeValue → Type 0
RecordsPromise old from p new =
    (t : TermValue) × IsFirstOf old.leader old.learner.whole.roster from p.ballot t
    × (new ≡ with_leader old (with_term (with_received (received_from from p) t) old.leader))

-- any other changes nothing
abbrev pub DropsPromise : NodeValue → ℕ → PromiseValue → NodeValue → Type 0
DropsPromise old from p new =
    ((t : TermValue) → IsFirstOf old.leader old.learner.whole.roster from p.ballot t → ⊥) × (new ≡ old)

-- and nothing follows from it immediately
abbrev pub HandlesPromise : NodeValue → ℕ → PromiseValue → NodeValue → OutboxValue → Type 0
HandlesPromise old from p new out = (RecordsPromise old from p new ⊎ DropsPromise old from p new) × (out ≡ nothing)

-- ---- proposals

-- the node proposes this: a command for a position that is open, in its term's ballot
pub record ProposesVote (old : NodeValue) (x : Vote) : Type 0 where
  pub term : TermValue
  pub current : old.leader.term ≡ Some term
  pub ballot : x.ballot ≡ term.ballot
  pub proposes : Proposes term old.leader.waiting old.learner.whole.roster x.position x.command

-- the node after that
abbrev pub having_proposed : (old : NodeValue) (x : Vote) → ProposesVote old x → NodeValue
having_proposed old x p =
    with_leader old (with_term (proposed old.learner.whole.roster x.position x.command p.term) old.leader)

-- nothing is left to propose
abbrev pub NothingToPropose : NodeValue → Type 0
NothingToPropose node = ProposesNothing node.leader node.learner.whole.roster

-- the node proposes these, one after another, until nothing is open, and tells each to the members of its position
abbrev pub ProposesAll : List Vote → NodeValue → NodeValue → OutboxValue → OutboxValue → Type 0
ProposesAll [] old new before out = NothingToPropose old × (new ≡ old) × (out ≡ before)
ProposesAll (x ∷ xs) old new before out =
    (p : ProposesVote old x)
    × ProposesAll xs (having_proposed old x p) new (telling old (nodes_of p.proposes.set) (kinds.Accept x) before) out

-- the same of everything that is open
abbrev pub ProposesOpen : NodeValue → NodeValue → OutboxValue → OutboxValue → Type 0
ProposesOpen old new before out = (xs : List Vote) × ProposesAll xs old new before out

-- the next of them, or none
abbrev pub ProposesNext : Bool → NodeValue → NodeValue → OutboxValue → OutboxValue → Type 0
ProposesNext true old new before out =
    (x : Vote) × (p : ProposesVote old x) × (new ≡ having_proposed old x p)
    × (out ≡ telling old (nodes_of p.proposes.set) (kinds.Accept x) before)
ProposesNext false old new before out = NothingToPropose old × (new ≡ old) × (out ≡ before)
