use Rattle.std.proofs.Common.{rules}
use Rattle.lk_script_lines.proofs.LineLaws.{took_line}
use Rattle.lk_script_lines.proofs.lines.next_line.Goals as goal

pub returns-in-Ok-clause-line : goal.returns-in-Ok-clause-line
returns-in-Ok-clause-line g c =
    λ _. took_line (g.R.Read.remaining c.args.reader.now)
    (g.R.Read.remaining c.read_until.new.self) c.read_until.new.buf.items c.drop_line_feed.new.line.items
    (search rules) c.in-Ok.ensures.rest (search rules) c.drop_line_feed.ensures

pub returns-in-Err-clause-within : goal.returns-in-Err-clause-within
returns-in-Err-clause-within g c = search rules
