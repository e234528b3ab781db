use Rattle.std.proofs.Common.{rules}
use Rattle.lk_script_lines.proofs.HexSpelling.{one_more_space}
use Rattle.lk_script_lines.proofs.hex_line.behind_spaces.Goals as goal

pub loop-behind-preserved : goal.loop-behind-preserved
loop-behind-preserved c =
    one_more_space c.args.text.now c.loop-behind.rest.now c.in-Some-eq32-default.behind.now
    c.loop-behind.invariant (search rules)
