use Rattle.std.proofs.Common.{take}
use Rattle.std.specs.Io.KnownBytes.{Appends}
use Rattle.lk_inspect.specs.Lines.{names_lines}
use Rattle.lk_inspect.proofs.lines.write_names.Given as goal

-- those so far were written
abbrev pub invariant-all : goal.invariant-all
invariant-all g l = Appends (g.W.Write.contents l.initial.out) (g.W.Write.contents l.out)
    (names_lines l.listing (take l.name-index l.names))
