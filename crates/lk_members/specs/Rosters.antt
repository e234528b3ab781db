-- The members, after the joins and leaves of a list of commands.
pub use Rattle.lk_types.specs.declared.member.Member.{Member}
pub use Rattle.lk_types.specs.declared.genesis.Genesis.{Genesis}
pub use Rattle.lk_types.specs.declared.command.Op.{Op}
pub use Rattle.lk_types.specs.declared.command.Op.TheVariants.{Table, Join, Leave, Raise}
pub use Rattle.lk_types.specs.declared.answer.Answer.{Answer}
pub use Rattle.lk_types.specs.declared.answer.Answer.TheVariants.{Joined, Used, Full, Left, NotMember, Last}
use Rattle.std.specs.Prelude.{ℕ, ◌+◌, ◌-◌, max, Bool, true, false, not, ◌==◌, nat_le, if◌then◌else◌, Option, Some, None}
use Rattle.std.specs.Prelude.{List, [], ◌∷◌, ◌++◌, length, take, fold, filter}
use Rattle.std.specs.List.{list_any}
use Rattle.lk_members.specs.Effects.{Command, RequestValue, PositionedEntry, positioned, in_effect, effects}

-- the members, rising by node, and the greatest number that was ever a member's
pub record PlainRoster : Type 0 where
  pub members : List Member
  pub greatest : ℕ

-- the greatest node number, 0 if there is no member
abbrev pub greatest_node : List Member → ℕ
greatest_node [] = 0
greatest_node (m ∷ ms) = max m.node (greatest_node ms)

-- the roster that a cluster begins with
abbrev pub first_roster : Genesis → PlainRoster
first_roster genesis = record { members = genesis.members; greatest = greatest_node genesis.members }

abbrev pub is_member : ℕ → List Member → Bool
is_member node ms = list_any (λ m. m.node == node) ms

-- the members but this one
abbrev pub others : ℕ → List Member → List Member
others node ms = filter (λ m. not (m.node == node)) ms

abbrev pub is_nobody : List Member → Bool
is_nobody [] = true
is_nobody (m ∷ ms) = false

-- numbers are never used again, and there are at most 7 members
abbrev pub join_answer : PlainRoster → ℕ → Answer
join_answer r node =
    if nat_le node r.greatest then Used
    else if nat_le 7 (length r.members) then Full
    else Joined

-- the last member cannot leave
abbrev pub leave_answer : PlainRoster → ℕ → Answer
leave_answer r node =
    if not (is_member node r.members) then NotMember
    else if is_nobody (others node r.members) then Last
    else Left

-- a join or a leave
abbrev pub IsChange : Op → Type 0
IsChange (Table body) = ⊥
IsChange (Join node port) = Unit {0}
IsChange (Leave node) = Unit {0}
IsChange Raise = ⊥

-- the answer to a join or a leave
abbrev pub roster_answer : PlainRoster → Op → Option Answer
roster_answer r (Table body) = None
roster_answer r (Join node port) = Some (join_answer r node)
roster_answer r (Leave node) = Some (leave_answer r node)
roster_answer r Raise = None

abbrev pub is_granted : Option Answer → Bool
is_granted (Some Joined) = true
is_granted (Some Left) = true
is_granted _ = false

-- the roster after an op: only a granted join or leave changes it
abbrev pub next_roster : PlainRoster → Op → PlainRoster
next_roster r (Table body) = r
next_roster r (Join node port) =
    if is_granted (roster_answer r (Join node port))
    then record { members = r.members ++ record { node = node; port = port } ∷ []; greatest = node }
    else r
next_roster r (Leave node) =
    if is_granted (roster_answer r (Leave node))
    then record { members = others node r.members; greatest = r.greatest }
    else r
next_roster r Raise = r

-- the roster after the requests that take effect, in order
unfoldable pub roster_of : Genesis → List Command → PlainRoster
roster_of genesis L = fold (λ r q. next_roster r q.op) (first_roster genesis) (effects L)

-- the members that decide position i: those after the first i - alpha entries
unfoldable pub members : Genesis → List Command → ℕ → List Member
members genesis L i = (roster_of genesis (take (i - genesis.alpha) L)).members

-- the request, if there is one, is a join or a leave that this roster grants
abbrev pub is_granted_change : PlainRoster → Option RequestValue → Bool
is_granted_change r None = false
is_granted_change r (Some q) = is_granted (roster_answer r q.op)

-- the entry takes effect after the entries before it, and its join or leave is granted
abbrev pub is_change : Genesis → PositionedEntry → Bool
is_change genesis p = is_granted_change (roster_of genesis p.before) (in_effect p.before p.entry)

-- the position of the last granted change, 0 if there is none
unfoldable pub last_change : Genesis → List Command → ℕ
last_change genesis L = fold (λ last p. if is_change genesis p then length p.before + 1 else last) 0 (positioned L)
