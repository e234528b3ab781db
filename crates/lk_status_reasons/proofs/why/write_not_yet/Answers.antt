-- The line has the number of the node.
use Rattle.std.proofs.Common.{sym}
use Rattle.lk_status_reasons.proofs.why.write_not_yet.Goals as goal

pub returns : goal.returns
returns g c = rw (sym c.get-node.ensures.value) c.writeln.ensures.bytes
