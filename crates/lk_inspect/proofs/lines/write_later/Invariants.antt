use Rattle.std.proofs.Common.{◌≡◌, ◌+◌, drop}
use Rattle.lk_inspect.specs.Lines.{later_lines}
use Rattle.lk_inspect.proofs.Writing.{SoFar}
use Rattle.lk_inspect.proofs.lines.write_later.Given as goal

-- with the lines of the sets that are left, what was written are all lines
abbrev pub invariant-sets : goal.invariant-sets
invariant-sets g l = record {
  position : l.position ≡ l.fn.first + l.each-index;
  written : SoFar (g.W.Write.contents l.initial.out) (g.W.Write.contents l.out)
      (later_lines l.fn.first l.fn.before l.sets) l.position l.last (drop l.each-index l.sets);
}
