use Rattle.std.proofs.Common.{sym}
use Rattle.lk_status_command.proofs.withheld.write_behind.Goals as goal

pub returns : goal.returns
returns g c = rw (sym c.get-node.ensures.value, sym c.get-executed.ensures.value) c.in_ok-writeln.ensures.bytes
