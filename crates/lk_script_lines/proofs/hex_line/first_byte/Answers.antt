use Rattle.std.proofs.Common.{rules}
use Rattle.lk_script_lines.proofs.HexSpelling.{no_byte}
use Rattle.lk_script_lines.proofs.hex_line.first_byte.Goals as goal

pub returns-in_err-byte-clause-none : goal.returns-in_err-byte-clause-none
returns-in_err-byte-clause-none c =
    λ _. no_byte c.args.text.now c.in_ok-low.rest.now c.in_ok-high.high.now c.in_ok-low.low.now (search rules)
    (c.in_err-byte.ensures.none (search rules))
