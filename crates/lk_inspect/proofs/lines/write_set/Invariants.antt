use Rattle.std.proofs.Common.{take}
use Rattle.std.specs.List.{flat_map}
use Rattle.std.specs.Io.KnownBytes.{Appends}
use Rattle.lk_inspect.specs.Lines.{member_word}
use Rattle.lk_inspect.proofs.lines.write_set.Given as goal

-- the members so far were written
abbrev pub invariant-members : goal.invariant-members
invariant-members g l = Appends (g.W.Write.contents l.initial.out) (g.W.Write.contents l.out)
    (flat_map member_word (take l.member-index l.members))
