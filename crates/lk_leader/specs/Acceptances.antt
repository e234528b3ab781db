-- Whose acceptances are counted, and when a majority has accepted.
use Rattle.std.specs.Prelude.{◌≡◌, ℕ, not, ◌==◌, if◌then◌else◌, Some, List, [], ◌∷◌, ◌++◌, map, filter}
use Rattle.std.specs.List.{list_any}
use Rattle.lk_types.specs.declared.member.Member.{Member}
use Rattle.lk_members.specs.Effects.{Command}
use Rattle.lk_members.specs.Majorities.{IsMajority}
use Rattle.lk_members.specs.Nodes.{nodes_of}
use Rattle.lk_members.specs.Windows.{RosterValue}
use Rattle.lk_leader.specs.Terms.{BallotValue, ProposalValue, TermValue, LeaderValue, proposal_at}
use Rattle.lk_leader.specs.Proposing.{AreMembersAt}

-- the members of the set that are among the nodes
abbrev pub members_among : List Member → List ℕ → List ℕ
members_among set nodes = map (λ m. m.node) (filter (λ m. list_any (λ n. n == m.node) nodes) set)

-- the members of the set that have not been heard to accept, in rising order
abbrev pub yet_to_accept : List Member → List ℕ → List ℕ
yet_to_accept set accepted = filter (λ k. not (list_any (λ n. n == k) accepted)) (nodes_of set)

-- a majority of the members has accepted it since it was proposed
abbrev pub HasMajority : List Member → ProposalValue → Type 0
HasMajority set p = IsMajority (members_among set p.accepted) set

-- the proposal after the node was heard to accept it
abbrev pub heard : List Member → ℕ → ProposalValue → ProposalValue
heard set node p =
    record { position = p.position; command = p.command; accepted = members_among set (p.accepted ++ node ∷ []) }

-- the term proposed this command at the position, in this ballot, and the set is that of the position
pub record IsVoteFor (t : TermValue) (roster : RosterValue) (b : BallotValue) (i : ℕ) (v : Command) (set : List Member)
    (p : ProposalValue) : Type 0 where
  pub ballot : t.ballot ≡ b
  pub members : AreMembersAt roster i set
  pub proposal : proposal_at i t.proposals ≡ Some p
  pub command : p.command ≡ v

-- the proposals after the node was heard to accept the one at the position
abbrev pub heard_at : List Member → ℕ → ℕ → List ProposalValue → List ProposalValue
heard_at set node i [] = []
heard_at set node i (p ∷ ps) = if p.position == i then heard set node p ∷ ps else p ∷ heard_at set node i ps

-- with that a majority of the set has accepted it, and had not before
abbrev pub GainsMajority : List Member → ℕ → ProposalValue → Type 0
GainsMajority set node p = (HasMajority set p → ⊥) × HasMajority set (heard set node p)

-- the leader's proposal at the position, which a majority of its set has not accepted yet
pub record IsOpen (l : LeaderValue) (roster : RosterValue) (i : ℕ) (p : ProposalValue) : Type 0 where
  pub term : TermValue
  pub current : l.term ≡ Some term
  pub proposal : proposal_at i term.proposals ≡ Some p
  pub set : List Member
  pub members : AreMembersAt roster i set
  pub no_majority : HasMajority set p → ⊥
