use Rattle.std.proofs.Common.{take}
use Rattle.std.specs.Io.KnownBytes.{Appends}
use Rattle.lk_inspect.specs.Lines.{sharer_lines}
use Rattle.lk_inspect.proofs.lines.write_sharers.Given as goal

-- those so far were written
abbrev pub invariant-all : goal.invariant-all
invariant-all g l = Appends (g.W.Write.contents l.initial.out) (g.W.Write.contents l.out)
    (sharer_lines l.name l.fence (take l.client-index l.clients))
