use Rattle.std.proofs.Common.{take}
use Rattle.std.specs.Io.KnownBytes.{Appends}
use Rattle.std.specs.Prelude.{flat_map}
use Rattle.lk_status_reasons.specs.States.{other_word}
use Rattle.lk_status_reasons.proofs.state_reason.write_others.Given as goal

-- those so far were written
abbrev pub invariant-all : goal.invariant-all
invariant-all g l = Appends (g.W.Write.contents l.fn.out) (g.W.Write.contents l.out)
    (flat_map (other_word l.report) (take l.other-index l.reports))
