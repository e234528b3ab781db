use Rattle.std.proofs.Common.{take}
use Rattle.std.specs.Io.KnownBytes.{Appends}
use Rattle.lk_status_reasons.specs.Reasons.{node_reasons}
use Rattle.lk_status_reasons.proofs.why.write_nodes.Given as goal

-- those so far were written
abbrev pub invariant-all : goal.invariant-all
invariant-all g l = Appends (g.W.Write.contents l.fn.out) (g.W.Write.contents l.out)
    (node_reasons l.majority l.is_early l.members (take l.report-index l.reports))
