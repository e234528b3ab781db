-- Those that are left decide.
use Rattle.std.proofs.Common.{◌≡◌, drop}
use Rattle.lk_locks.specs.Sharers.{are_clients_above}
use Rattle.lk_locks.proofs.sharers.are_rising.Given as goal

abbrev pub invariant-loop-client : goal.invariant-loop-client
invariant-loop-client l = are_clients_above l.low (drop l.client-index l.clients) ≡ are_clients_above 0 l.clients
