-- Why a join or a leave is not sent, in words.
use Rattle.std.specs.Prelude.{ℕ, nat_lt, ◌==◌, ◌&&◌, if◌then◌else◌, Option, Some, None, List, [], ◌∷◌, ◌++◌, codes}
use Rattle.std.specs.Prelude.{flat_map}
use Rattle.std.specs.Fmt.{decimal}
use Rattle.std.specs.Io.KnownBytes.{Appends}
use Rattle.lk_types.specs.declared.command.Op.{Op}
use Rattle.lk_types.specs.declared.member.Member.{Member}
use Rattle.lk_probe.specs.declared.probe.Report.{Report}
use Rattle.lk_status.specs.Changes.{goal_of, has_executed, members_after}
use Rattle.lk_status.specs.Measures.{IsFurthestNamedOf, has_genesis}

-- the first report of that node that names this genesis
abbrev pub report_by : List ℕ → ℕ → List Report → Option Report
report_by genesis node [] = None
report_by genesis node (r ∷ rs) = if r.node == node && has_genesis genesis r then Some r else report_by genesis node rs

-- what a node has executed of so many positions, or that it does not report
abbrev pub lagging_line : ℕ → Option Report → ℕ → List ℕ
lagging_line node None most =
    codes "node "
    ++ (decimal node ++ codes " does not report: the change would leave no majority that has caught up\n")
lagging_line node (Some r) most =
    codes "node "
    ++ (decimal node ++ (codes " has executed " ++ (decimal r.status.progress.executed
    ++ (codes " of " ++ (decimal most ++ codes ": the change would leave no majority that has caught up\n")))))

-- the same of a member that has not caught up with the furthest report
abbrev pub member_line : List ℕ → Report → List Report → Member → List ℕ
member_line genesis furthest rs m =
    if has_executed genesis (goal_of furthest) m.node rs then []
    else lagging_line m.node (report_by genesis m.node rs) furthest.status.progress.executed

abbrev pub pending_line : List ℕ
pending_line = codes "an earlier join or leave has not taken effect yet\n"

-- an earlier change is pending, or who of the members after the op has not caught up
abbrev pub reason_lines : Op → Report → Report → List Report → List ℕ
reason_lines op furthest latest rs =
    if nat_lt 0 latest.status.progress.pending then pending_line
    else flat_map (member_line latest.status.identity.genesis furthest rs) (members_after op latest.status.members)

abbrev pub unknown_line : List ℕ
unknown_line = codes "no node reports its members: it is not known what the change would leave\n"

-- the same, or that it is not known, by the furthest reports of two rounds
abbrev pub known_lines : Op → Option Report → Option Report → List Report → List ℕ
known_lines op (Some furthest) (Some latest) rs = reason_lines op furthest latest rs
known_lines op (Some furthest) None rs = unknown_line
known_lines op None latest rs = unknown_line

-- and what can be done
abbrev pub withheld_lines : Op → Option Report → Option Report → List Report → List ℕ
withheld_lines op furthest latest rs =
    known_lines op furthest latest rs ++ codes "nothing was sent: wait, or send it all the same with --force\n"

-- what is appended are these lines, by the furthest reports of both rounds
pub record IsWithheld (op : Op) (earlier rs : List Report) (old new : Option (List ℕ)) : Type 0 where
  pub furthest : Option Report
  pub latest : Option Report
  pub is_furthest : IsFurthestNamedOf earlier furthest
  pub is_latest : IsFurthestNamedOf rs latest
  pub printed : Appends old new (withheld_lines op furthest latest rs)
