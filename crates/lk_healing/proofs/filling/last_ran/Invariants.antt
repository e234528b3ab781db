use Rattle.std.proofs.Common.{◌≡◌, drop}
use Rattle.lk_healing.proofs.filling.last_ran.Given as goal
use Rattle.lk_healing.specs.Fills.{last_ran}

abbrev pub invariant-loop-note : goal.invariant-loop-note
invariant-loop-note l =
    last_ran l.fn.node l.executed (drop l.note-index l.notes) ≡ last_ran l.fn.node l.fn.before l.notes
