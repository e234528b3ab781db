use Rattle.std.proofs.Common.{length}
use Rattle.lk_node_setup.proofs.HostLaws.{ReadsSoFar}
use Rattle.lk_node_setup.proofs.host_file.read_hosts.Given as goal

abbrev pub invariant-lines : goal.invariant-lines
invariant-lines l = ReadsSoFar l.text l.hosts.items l.rest l.number

abbrev pub decreases-lines : goal.decreases-lines
decreases-lines l = length l.rest
