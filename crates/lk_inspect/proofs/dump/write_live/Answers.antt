use Rattle.std.proofs.Common.{rules}
use Rattle.lk_inspect.specs.Dumps.{format_shown}
use Rattle.lk_inspect.proofs.Dumping.{six_lines, prints_live}
use Rattle.lk_inspect.proofs.dump.write_live.Goals as goal

pub returns : goal.returns
returns g c =
    prints_live c.args.live.now.generation (format_shown c.args.sums c.args.live.now.format) c.args.live.now.standing
    _ _ _ _ _ _ _ _
    (six_lines _ _ _ _ _ _ _ _ _ _ _ _ _ c.in_ok-write_number.ensures c.in_ok-write_promised.ensures
    c.in_ok-write_number-2.ensures c.in_ok-write_number-3.ensures c.in_ok-write_number-4.ensures
    c.in_ok-write_number-5.ensures)
    (search rules) (search rules) (search rules) (search rules) (search rules) (search rules)
