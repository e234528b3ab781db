use Rattle.std.proofs.Common.{◌≡◌, drop}
use Rattle.std.specs.List.{list_any}
use Rattle.lk_probe.specs.Neighbours.{is_due_at}
use Rattle.lk_probe.proofs.neighbours.first_due.Given as goal

-- no entry so far is due
abbrev pub invariant-loop-entry : goal.invariant-loop-entry
invariant-loop-entry l =
    (l.at ≡ l.entry-index) × (list_any (is_due_at l.now) (drop l.entry-index l.entries)
    ≡ list_any (is_due_at l.now) l.entries)
