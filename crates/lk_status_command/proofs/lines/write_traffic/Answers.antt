use Rattle.std.proofs.Common.{rules}
use Rattle.lk_types.proofs.Appending.{appends_more}
use Rattle.lk_status_command.proofs.Writing.{traffic_as}
use Rattle.lk_status_command.proofs.lines.write_traffic.Goals as goal

pub returns : goal.returns
returns g c =
    traffic_as (g.W.Write.contents c.args.out.now)
    (g.W.Write.contents c.write_count-3.new.out) c.args.report.now c.from-pending.result c.from.result
    (appends_more _ _ _ _ _ c.in_ok-write_count.ensures
    (appends_more _ _ _ _ _ c.in_ok-write_count-2.ensures c.in_ok-write_count-3.ensures))
    (search rules) (search rules)
