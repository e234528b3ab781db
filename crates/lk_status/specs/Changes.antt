-- Which joins and leaves leave a majority that has caught up, by two rounds of reports.
use Rattle.std.specs.Prelude.{◌≡◌, ◌⊎◌, ◌↔◌, ℕ, suc, ◌-◌, ◌*◌, ◌<◌, Bool, false, nat_le, ◌==◌, ◌&&◌, ◌||◌, IsTrue}
use Rattle.std.specs.Prelude.{if◌then◌else◌, Option, Some, None, List, [], ◌∷◌, ◌++◌, length}
use Rattle.lk_types.specs.declared.command.Op.{Op}
use Rattle.lk_types.specs.declared.command.Op.TheVariants.{Table, Join, Leave, Raise}
use Rattle.lk_types.specs.declared.member.Member.{Member}
use Rattle.lk_members.specs.Rosters.{is_member, is_nobody, others}
use Rattle.lk_probe.specs.declared.probe.Report.{Report}
use Rattle.lk_status.specs.Measures.{IsFurthestNamedOf, has_genesis}

-- ---- the members after a change

-- with a newcomer at the end. The cluster grants no join of a member, and none where there are seven
abbrev pub with_newcomer : Member → List Member → List Member
with_newcomer m ms = if is_member m.node ms || nat_le 7 (length ms) then ms else ms ++ m ∷ []

-- without a node. The cluster does not let the only member leave
abbrev pub without_leaver : ℕ → List Member → List Member
without_leaver node ms = if is_nobody (others node ms) then ms else others node ms

-- only a join or a leave changes them
abbrev pub members_after : Op → List Member → List Member
members_after (Table body) ms = ms
members_after (Join node port) ms = with_newcomer (record { node = node; port = port }) ms
members_after (Leave node) ms = without_leaver node ms
members_after Raise ms = ms

-- ---- who has caught up

-- it is of that node, names this genesis, and says that so many positions are executed
abbrev pub says_executed : List ℕ → ℕ → ℕ → Report → Bool
says_executed genesis goal node r =
    r.node == node && (has_genesis genesis r && nat_le goal r.status.progress.executed)

-- one of the reports says so
abbrev pub has_executed : List ℕ → ℕ → ℕ → List Report → Bool
has_executed genesis goal node [] = false
has_executed genesis goal node (r ∷ rs) = says_executed genesis goal node r || has_executed genesis goal node rs

-- how many of the members do
abbrev pub count_executed : List ℕ → ℕ → List Member → List Report → ℕ
count_executed genesis goal [] rs = 0
count_executed genesis goal (m ∷ ms) rs =
    if has_executed genesis goal m.node rs then suc (count_executed genesis goal ms rs)
    else count_executed genesis goal ms rs

-- more than half of these members have executed so many positions
abbrev pub HasMajorityAt : List ℕ → ℕ → List Member → List Report → Type 0
HasMajorityAt genesis goal ms rs = length ms < 2 * count_executed genesis goal ms rs

-- how many positions a node has to have executed: sixteen less than that report says
abbrev pub goal_of : Report → ℕ
goal_of r = r.status.progress.executed - 16

-- ---- whether a change is safe

-- it changes no member, or there is only one
abbrev pub NeedsNoMajority : Op → List Member → Type 0
NeedsNoMajority op ms = (length (members_after op ms) ≡ length ms) ⊎ (length ms ≡ 1)

-- by the members that the latest report names: no earlier change is still to come into force, and the op either needs
-- no majority, or leaves one that has caught up
abbrev pub IsSafeAt : Op → ℕ → Report → List Report → Type 0
IsSafeAt op goal latest rs =
    (latest.status.progress.pending ≡ 0)
    × (NeedsNoMajority op latest.status.members
    ⊎ HasMajorityAt latest.status.identity.genesis goal (members_after op latest.status.members) rs)

-- the same by the furthest reports of two rounds, of which the first sets the goal. Nothing is safe without a report
abbrev pub IsSafeBy : Op → Option Report → Option Report → List Report → Type 0
IsSafeBy op (Some furthest) (Some latest) rs = IsSafeAt op (goal_of furthest) latest rs
IsSafeBy op (Some furthest) None rs = ⊥
IsSafeBy op None latest rs = ⊥

-- it is judged to be safe exactly where it is, by two rounds
pub record IsJudged (op : Op) (earlier rs : List Report) (safe : Bool) : Type 0 where
  pub furthest : Option Report
  pub latest : Option Report
  pub is_furthest : IsFurthestNamedOf earlier furthest
  pub is_latest : IsFurthestNamedOf rs latest
  pub exact : IsTrue safe ↔ IsSafeBy op furthest latest rs
