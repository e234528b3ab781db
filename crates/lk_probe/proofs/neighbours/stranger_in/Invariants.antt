use Rattle.std.proofs.Common.{◌≡◌, drop}
use Rattle.std.specs.List.{list_any}
use Rattle.lk_probe.specs.Neighbours.{is_stranger_at}
use Rattle.lk_probe.proofs.neighbours.stranger_in.Given as goal

-- no entry so far is a stranger's at the address
abbrev pub invariant-loop-entry : goal.invariant-loop-entry
invariant-loop-entry l =
    list_any (is_stranger_at l.address) (drop l.entry-index l.entries) ≡ list_any (is_stranger_at l.address) l.entries
