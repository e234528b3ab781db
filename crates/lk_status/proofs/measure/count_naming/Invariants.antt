use Rattle.std.proofs.Common.{◌≡◌, ◌+◌, ◌≤◌, drop}
use Rattle.lk_status.specs.Measures.{count_naming}
use Rattle.lk_status.proofs.measure.count_naming.Given as goal

-- those that were counted, and those that are left, are all
abbrev pub invariant-all : goal.invariant-all
invariant-all l =
    (l.count + count_naming l.genesis (drop l.index l.reports) ≡ count_naming l.genesis l.reports) × (l.count ≤ l.index)
