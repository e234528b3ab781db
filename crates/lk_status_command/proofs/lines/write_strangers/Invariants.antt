use Rattle.std.proofs.Common.{◌++◌, take}
use Rattle.std.specs.List.{flat_map}
use Rattle.std.specs.Io.KnownBytes.{Appends}
use Rattle.std.specs.Prelude.{codes}
use Rattle.lk_status_command.specs.Lines.{stranger_word}
use Rattle.lk_status_command.proofs.lines.write_strangers.Given as goal

-- those so far were written
abbrev pub invariant-all : goal.invariant-all
invariant-all g l = Appends (g.W.Write.contents l.fn.out) (g.W.Write.contents l.out)
    (codes "; genesis differs:" ++ flat_map (stranger_word l.measure) (take l.report-index l.reports))
