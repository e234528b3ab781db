-- The measure, the report with which the others are compared, and how it is chosen.
use Rattle.std.specs.Prelude.{◌≡◌, ◌≤◌, ℕ, suc, nat_eq, nat_lt, nat_le, ◌==◌, not, ◌&&◌, ◌||◌, Bool, true, false}
use Rattle.std.specs.Prelude.{Option, Some, None, List, [], ◌∷◌, filter, if◌then◌else◌}
use Rattle.std.specs.Cmp.Lexicographic.{pointwise}
use Rattle.std.specs.List.{AllByRecursion}
use Rattle.lk_types.specs.Ballots.{is_below}
use Rattle.lk_probe.specs.declared.probe.Report.{Report}
use Rattle.lk_status.specs.Verdicts.{IsAmong}

-- ---- which genesis most nodes name

-- it names that genesis
abbrev pub has_genesis : List ℕ → Report → Bool
has_genesis genesis r = pointwise nat_eq r.status.identity.genesis genesis

-- the reports that name it
abbrev pub those_of : List ℕ → List Report → List Report
those_of genesis rs = filter (has_genesis genesis) rs

-- a report of that node names it
abbrev pub is_named_by : List ℕ → ℕ → List Report → Bool
is_named_by genesis node [] = false
is_named_by genesis node (r ∷ rs) = r.node == node && has_genesis genesis r || is_named_by genesis node rs

-- it names that genesis, and no report of its node among these, which follow it, does
abbrev pub is_last_to_name : List ℕ → Report → List Report → Bool
is_last_to_name genesis r rs = has_genesis genesis r && not (is_named_by genesis r.node rs)

-- how many nodes name it
abbrev pub count_naming : List ℕ → List Report → ℕ
count_naming genesis [] = 0
count_naming genesis (r ∷ rs) = if is_last_to_name genesis r rs then suc
    (count_naming genesis rs) else count_naming genesis rs

-- the first leads and the other does not, or leads in a smaller ballot; or nobody of both leads, and the other is the
-- greater node
abbrev pub wins_tie : Report → Report → Bool
wins_tie r o =
    if r.status.leadership.leads
    then not o.status.leadership.leads || is_below o.status.leadership.promised r.status.leadership.promised
    else not o.status.leadership.leads && nat_lt r.node o.node

-- more nodes name the genesis of the first, or as many, and it wins the tie
abbrev pub outweighs_by : ℕ → ℕ → Report → Report → Bool
outweighs_by ours theirs r o = nat_lt theirs ours || theirs == ours && wins_tie r o

abbrev pub outweighs : List Report → Report → Report → Bool
outweighs rs r o = outweighs_by (count_naming r.status.identity.genesis rs)
    (count_naming o.status.identity.genesis rs) r o

-- none outweighs it: its genesis is the one that most nodes name. Of geneses that as many nodes name, it is that of the
-- leader with the greatest ballot, or of the smallest node if none leads
pub record IsMostNamed (rs : List Report) (r : Report) : Type 0 where
  pub is_there : IsAmong r rs
  pub most : AllByRecursion (λ (o : Report). outweighs rs o r ≡ false) rs

-- one of them, if there is any
abbrev pub IsMostNamedOf : List Report → Option Report → Type 0
IsMostNamedOf rs None = rs ≡ []
IsMostNamedOf rs (Some r) = IsMostNamed rs r

-- ---- the measure

-- none has executed more
pub record IsFurthest (rs : List Report) (r : Report) : Type 0 where
  pub is_there : IsAmong r rs
  pub most : AllByRecursion (λ (o : Report). o.status.progress.executed ≤ r.status.progress.executed) rs

-- one that has executed most, if there is any
abbrev pub IsFurthestOf : List Report → Option Report → Type 0
IsFurthestOf rs None = rs ≡ []
IsFurthestOf rs (Some r) = IsFurthest rs r

-- of the reports whose genesis most nodes name, it is that of the leader, or of one that has executed most if none
-- leads
pub record IsMeasure (rs : List Report) (r : Report) : Type 0 where
  pub named : Report
  pub most_named : IsMostNamed rs named
  pub leader : named.status.leadership.leads ≡ true → r ≡ named
  pub furthest : named.status.leadership.leads ≡ false → IsFurthest (those_of named.status.identity.genesis rs) r

-- the measure, if there is any report
abbrev pub IsMeasureOf : List Report → Option Report → Type 0
IsMeasureOf rs None = rs ≡ []
IsMeasureOf rs (Some r) = IsMeasure rs r

-- ---- the furthest

-- of the reports whose genesis most nodes name, none has executed more
pub record IsFurthestNamed (rs : List Report) (r : Report) : Type 0 where
  pub named : Report
  pub most_named : IsMostNamed rs named
  pub furthest : IsFurthest (those_of named.status.identity.genesis rs) r

-- one that has executed most of these, if there is any report
abbrev pub IsFurthestNamedOf : List Report → Option Report → Type 0
IsFurthestNamedOf rs None = rs ≡ []
IsFurthestNamedOf rs (Some r) = IsFurthestNamed rs r

-- ---- of two reports

-- the first outweighs the other, if there is one
abbrev pub is_named_more : List Report → Report → Option Report → Bool
is_named_more rs r None = true
is_named_more rs r (Some o) = outweighs rs r o

-- the report, if it outweighs the best so far, else that one
abbrev pub more_named : List Report → Option Report → Report → Option Report
more_named rs best r = if is_named_more rs r best then Some r else best

abbrev pub executed_of : Option Report → ℕ
executed_of None = 0
executed_of (Some r) = r.status.progress.executed

-- the report, if it has that genesis and has executed as much as the furthest so far or more, else that one
abbrev pub further : List ℕ → Option Report → Report → Option Report
further genesis furthest r =
    if has_genesis genesis r && nat_le (executed_of furthest) r.status.progress.executed then Some r else furthest
