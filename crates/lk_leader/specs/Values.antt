-- The leader's value: which command a term proposes at a position.
use Rattle.std.specs.Prelude.{◌≡◌, ◌⊎◌, ℕ, ◌==◌, ◌+◌, ◌<◌, ◌≤◌, ◌&&◌, ◌||◌, nat_le, nat_lt, Bool, IsTrue, Option, Some}
use Rattle.std.specs.Prelude.{None, List, [], ◌∷◌, ◌++◌, length, map, filter, Contains}
use Rattle.std.specs.List.{flat_map, list_any}
use Rattle.lk_types.specs.Ballots.{IsBelow}
use Rattle.lk_types.specs.declared.member.Member.{Member}
use Rattle.lk_members.specs.Effects.{Command, RequestValue, Noop, Request}
use Rattle.lk_members.specs.Rosters.{is_member}
use Rattle.lk_members.specs.Windows.{RosterValue}
use Rattle.lk_leader.specs.Terms.{ReceivedPromise, ProposalValue, TermValue}
pub use Rattle.lk_leader.specs.declared.promised_vote.PromisedVote.{PromisedVote}

-- a promise speaks for a position of this set: a member gave it, from the position or one before it on
abbrev pub speaks_at : List Member → ℕ → ReceivedPromise → Bool
speaks_at set i r = is_member r.node set && nat_le r.first i

-- those of the promises that do
abbrev pub received_at : List Member → ℕ → List ReceivedPromise → List ReceivedPromise
received_at set i received = filter (speaks_at set i) received

-- what a promise reports of the position
abbrev pub promised_by : ℕ → ReceivedPromise → List PromisedVote
promised_by i r = map (λ x. record { node = r.node; vote = x }) (filter (λ x. x.position == i) r.votes)

-- what these promises report of it
abbrev pub promised_at : ℕ → List ReceivedPromise → List PromisedVote
promised_at i received = flat_map (promised_by i) received

-- the second counts at least as much: a greater ballot, or the same one reported by a node that is not greater
abbrev pub IsNotAbove : PromisedVote → PromisedVote → Type 0
IsNotAbove u t = IsBelow u.vote.ballot t.vote.ballot ⊎ ((u.vote.ballot ≡ t.vote.ballot) × (t.node ≤ u.node))

-- one of them, and none is above it
pub record IsHighest (ts : List PromisedVote) (t : PromisedVote) : Type 0 where
  pub among : Contains ts t
  pub above : (u : PromisedVote) → Contains ts u → IsNotAbove u t

-- the highest of them, or none if there are none
abbrev pub IsBest : List PromisedVote → Option PromisedVote → Type 0
IsBest ts None = ts ≡ []
IsBest ts (Some t) = IsHighest ts t

-- the command is proposed at a position that is not executed
abbrev pub IsUnderWay : ℕ → List ProposalValue → Command → Type 0
IsUnderWay executed ps v = (p : ProposalValue) × Contains ps p × (executed < p.position) × (p.command ≡ v)

-- the first of the waiting requests that is not proposed at such a position
pub record IsFirstNew (executed : ℕ) (ps : List ProposalValue) (waiting : List RequestValue)
    (q : RequestValue) : Type 0 where
  pub before : List RequestValue
  pub behind : List RequestValue
  pub parts : waiting ≡ before ++ (q ∷ behind)
  pub under_way : (r : RequestValue) → Contains before r → IsUnderWay executed ps (Request r)
  pub new : IsUnderWay executed ps (Request q) → ⊥

-- there is none
abbrev pub NoneIsNew : ℕ → List ProposalValue → List RequestValue → Type 0
NoneIsNew executed ps waiting = (r : RequestValue) → Contains waiting r → IsUnderWay executed ps (Request r)

-- some promise reports a vote at the position or after it
abbrev pub has_vote_from : List ReceivedPromise → ℕ → Bool
has_vote_from received i = list_any (λ r. list_any (λ x. nat_le i x.position) r.votes) received

-- the last change is not in effect before the position
abbrev pub is_changing_at : RosterValue → ℕ → Bool
is_changing_at roster i = nat_lt 0 roster.changed && nat_le i (roster.changed + length roster.sets)

-- the command that a term proposes at a position of this set, in three cases
pub data IsLeadersValue (t : TermValue) (waiting : List RequestValue) (roster : RosterValue) (set : List Member)
    (i : ℕ) : Command → Type 0 where
  -- the highest vote that a member's promise reports for the position
  highest : (h : PromisedVote) → IsHighest (promised_at i (received_at set i t.received)) h
      → IsLeadersValue t waiting roster set i h.vote.command
  -- if none is reported, the first waiting request that is not under way
  first_new : (q : RequestValue) → promised_at i (received_at set i t.received) ≡ []
      → IsFirstNew roster.executed t.proposals waiting q
      → IsLeadersValue t waiting roster set i (Request q)
  -- otherwise a no-op, if a promise reports a vote at it or after it, or the last change of members is not in effect
  -- before it
  fills : promised_at i (received_at set i t.received) ≡ [] → NoneIsNew roster.executed t.proposals waiting
      → IsTrue (has_vote_from t.received i || is_changing_at roster i)
      → IsLeadersValue t waiting roster set i Noop
