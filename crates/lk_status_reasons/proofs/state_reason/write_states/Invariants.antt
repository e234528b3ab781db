use Rattle.std.proofs.Common.{take}
use Rattle.std.specs.Io.KnownBytes.{Appends}
use Rattle.std.specs.Prelude.{flat_map}
use Rattle.lk_status_reasons.specs.States.{state_reason}
use Rattle.lk_status_reasons.proofs.state_reason.write_states.Given as goal

-- those so far were written
abbrev pub invariant-all : goal.invariant-all
invariant-all g l = Appends (g.W.Write.contents l.fn.out) (g.W.Write.contents l.out)
    (flat_map (state_reason l.reports) (take l.report-index l.reports))
