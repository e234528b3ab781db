use Rattle.std.proofs.Common.{rules}
use Rattle.std.specs.Io.KnownBytes.{Appends}
use Rattle.lk_status_command.specs.Lines.{name_text, members_text}
use Rattle.lk_types.proofs.Appending.{appends_more}
use Rattle.lk_status_command.proofs.lines.write_node.Goals as goal

pub returns : goal.returns
returns g c =
    let r = c.args.report.now in
    let name : Appends (g.W.Write.contents c.args.out.now) (g.W.Write.contents c.write.new.self)
    (name_text r.node c.args.port) = search rules in
    let members : Appends (g.W.Write.contents c.write_progress.new.out) (g.W.Write.contents c.write_members.new.out)
    (members_text r.status.members) = search rules in
    appends_more _ _ _ _ _ name
    (appends_more _ _ _ _ _ c.in_ok-write_leadership.ensures
    (appends_more _ _ _ _ _ c.in_ok-write_hearing.ensures
    (appends_more _ _ _ _ _ c.in_ok-write_progress.ensures
    (appends_more _ _ _ _ _ members
    (appends_more _ _ _ _ _ c.in_ok-write_traffic.ensures
    (appends_more _ _ _ _ _ c.in_ok-write_kept.ensures c.in_ok-write_all.ensures.bytes))))))
