-- Which command a leader proposes next, at which position, and when it leads.
use Rattle.std.specs.Prelude.{◌≡◌, ℕ, ◌==◌, ◌+◌, ◌-◌, ◌<◌, ◌≤◌, ◌&&◌, nat_le, Some, None, IsSome, List, [], ◌∷◌, ◌++◌}
use Rattle.std.specs.Prelude.{length, map, filter, slice_get}
use Rattle.std.specs.List.{list_any}
use Rattle.lk_types.specs.declared.member.Member.{Member}
use Rattle.lk_members.specs.Effects.{Command, RequestValue}
use Rattle.lk_members.specs.Majorities.{IsMajority}
use Rattle.lk_members.specs.Windows.{RosterValue}
use Rattle.lk_leader.specs.Terms.{ReceivedPromise, ProposalValue, TermValue, LeaderValue, proposal_at, in_window}
use Rattle.lk_leader.specs.Terms.{with_proposals}
use Rattle.lk_leader.specs.Values.{IsLeadersValue}

-- the members of the set that promised from the position or one before it on
abbrev pub promisers : List Member → ℕ → List ReceivedPromise → List ℕ
promisers set i received =
    map (λ m. m.node) (filter (λ m. list_any (λ r. r.node == m.node && nat_le r.first i) received) set)

-- the first position of the window, and of all, at which nothing is proposed
pub record IsNext (roster : RosterValue) (ps : List ProposalValue) (i : ℕ) : Type 0 where
  pub above : roster.executed < i
  pub reaches : i ≤ roster.executed + length roster.sets
  pub in_range : i ≤ 281474976710656
  pub new : proposal_at i ps ≡ None
  pub least : (j : ℕ) → roster.executed < j → j < i → IsSome (proposal_at j ps)

-- the set is that of the position
abbrev pub AreMembersAt : RosterValue → ℕ → List Member → Type 0
AreMembersAt roster i set = (roster.executed < i) × (slice_get roster.sets (i - (roster.executed + 1)) ≡ Some set)

-- a majority of the members of the position promised the term from there or before it on
pub record IsPromisedByMajority (t : TermValue) (roster : RosterValue) (i : ℕ) : Type 0 where
  pub set : List Member
  pub members : AreMembersAt roster i set
  pub promised : IsMajority (promisers set i t.received) set

-- so those of the next position, where there is one
abbrev pub IsElected : TermValue → RosterValue → Type 0
IsElected t roster = (roster.executed < 281474976710656) × IsPromisedByMajority t roster (roster.executed + 1)

-- the leader has a term, which is elected
abbrev pub Leads : LeaderValue → RosterValue → Type 0
Leads l roster = (t : TermValue) × (l.term ≡ Some t) × IsElected t roster

-- the term proposes the command at the position
pub record Proposes (t : TermValue) (waiting : List RequestValue) (roster : RosterValue) (i : ℕ)
    (v : Command) : Type 0 where
  pub next : IsNext roster t.proposals i
  pub set : List Member
  pub members : AreMembersAt roster i set
  pub promised : IsMajority (promisers set i t.received) set
  pub value : IsLeadersValue t waiting roster set i v

-- the leader has a term that proposes it
abbrev pub LeaderProposes : LeaderValue → RosterValue → ℕ → Command → Type 0
LeaderProposes l roster i v = (t : TermValue) × (l.term ≡ Some t) × Proposes t l.waiting roster i v

-- the term after that. What is proposed outside the window is not kept
abbrev pub proposed : RosterValue → ℕ → Command → TermValue → TermValue
proposed roster i v t =
    with_proposals (in_window roster.executed (length roster.sets) t.proposals
    ++ record { position = i; command = v; accepted = [] } ∷ []) t
