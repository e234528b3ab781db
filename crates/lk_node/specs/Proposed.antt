-- The invariant between what a node remembers of its proposals, its leader and its roster.
use Rattle.std.specs.Prelude.{ℕ, Bool, true, false}
use Rattle.lk_members.specs.Windows.{RosterValue}
use Rattle.lk_leader.specs.Proposing.{LeaderProposes}
use Rattle.lk_leader.specs.Terms.{Command, LeaderValue}

-- nothing is left that the leader could propose
abbrev pub ProposesNothing : LeaderValue → RosterValue → Type 0
ProposesNothing leader roster = (i : ℕ) (v : Command) → LeaderProposes leader roster i v → ⊥

-- nothing is, if the node remembers that
abbrev pub ProposesNothingIf : Bool → LeaderValue → RosterValue → Type 0
ProposesNothingIf true leader roster = ProposesNothing leader roster
ProposesNothingIf false leader roster = Unit {0}
