use Rattle.std.proofs.Common.{sym, ◌∙◌}
use Rattle.lk_script_lines.proofs.HexSpelling.{ends, goes_on}
use Rattle.lk_script_lines.proofs.hex_line.read_bytes.Goals as goal

pub returns-then-is_empty-clause-ok : goal.returns-then-is_empty-clause-ok
returns-then-is_empty-clause-ok c =
    let pair = c.in-Some.ensures.some in
    rw c.in_ok-push.ensures.items
    (ends c.args.line.now c.loop-byte.bytes.items c.loop-byte.rest.now c.in-Some.behind.now pair.0 pair.1
    c.in-Some.byte c.loop-byte.invariant pair.2 pair.3 (sym c.is_empty.ensures ∙ c.if-is_empty.true))

pub loop-byte-preserved : goal.loop-byte-preserved
loop-byte-preserved c =
    let pair = c.in-Some.ensures.some in
    let spaces = c.behind_spaces-rest.ensures.spaces in
    rw c.in_ok-push.ensures.items
    (goes_on c.args.line.now c.loop-byte.bytes.items c.loop-byte.rest.now c.in-Some.behind.now
    c.behind_spaces-rest.result.now pair.0 pair.1 c.in-Some.byte spaces.0
    c.loop-byte.invariant pair.2 pair.3
    (sym c.is_empty.ensures ∙ c.if-is_empty.false) spaces.1 c.behind_spaces-rest.ensures.next)
