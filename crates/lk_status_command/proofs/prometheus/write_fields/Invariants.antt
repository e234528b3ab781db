use Rattle.std.proofs.Common.{take}
use Rattle.std.specs.Io.KnownBytes.{Appends}
use Rattle.std.specs.Prelude.{flat_map}
use Rattle.lk_status_command.specs.Metrics.{field_text}
use Rattle.lk_status_command.proofs.prometheus.write_fields.Given as goal

-- those so far were written
abbrev pub invariant-all : goal.invariant-all
invariant-all g l = Appends (g.W.Write.contents l.fn.out) (g.W.Write.contents l.out)
    (flat_map (field_text l.first l.inquiry l.reports) (take l.field-index l.fields))
