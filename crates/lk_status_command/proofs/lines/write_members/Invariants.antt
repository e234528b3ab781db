use Rattle.std.proofs.Common.{take}
use Rattle.std.specs.Io.KnownBytes.{Appends}
use Rattle.lk_status_command.specs.Lines.{members_text}
use Rattle.lk_status_command.proofs.lines.write_members.Given as goal

-- the members so far were written
abbrev pub invariant-members : goal.invariant-members
invariant-members g l =
    Appends (g.W.Write.contents l.fn.out) (g.W.Write.contents l.out) (members_text (take l.member-index l.members))
