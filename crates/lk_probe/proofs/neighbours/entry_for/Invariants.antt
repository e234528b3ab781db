use Rattle.std.proofs.Common.{◌≡◌, ◌+◌, drop}
use Rattle.lk_probe.specs.Neighbours.{entry_for}
use Rattle.lk_probe.proofs.neighbours.entry_for.Given as goal

-- no entry so far is for the address
abbrev pub invariant-loop-entry : goal.invariant-loop-entry
invariant-loop-entry l =
    (l.at ≡ l.entry-index) × (entry_for l.address l.entries ≡ l.at + entry_for l.address (drop l.entry-index l.entries))
