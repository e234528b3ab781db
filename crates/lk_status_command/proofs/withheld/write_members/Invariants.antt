use Rattle.std.proofs.Common.{take}
use Rattle.std.specs.Io.KnownBytes.{Appends}
use Rattle.std.specs.Prelude.{flat_map}
use Rattle.lk_status_command.specs.Withheld.{member_line}
use Rattle.lk_status_command.proofs.withheld.write_members.Given as goal

-- those so far were written
abbrev pub invariant-all : goal.invariant-all
invariant-all g l = Appends (g.E.Write.contents l.fn.err) (g.E.Write.contents l.err)
    (flat_map (member_line l.genesis l.furthest l.reports) (take l.member-index l.members))
