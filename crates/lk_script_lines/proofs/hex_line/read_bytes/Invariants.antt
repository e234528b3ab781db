use Rattle.std.proofs.Common.{length}
use Rattle.lk_script_lines.proofs.HexSpelling.{GoesOn}
use Rattle.lk_script_lines.proofs.hex_line.read_bytes.Given as goal

abbrev pub invariant-loop-byte : goal.invariant-loop-byte
invariant-loop-byte l = GoesOn l.line l.bytes.items l.rest

abbrev pub decreases-loop-byte : goal.decreases-loop-byte
decreases-loop-byte l = length l.rest
