use Rattle.std.proofs.Common.{◌≡◌, length}
use Rattle.lk_auth.specs.Masters.{IsTable}
use Rattle.lk_auth.proofs.masters.table_of.Given as goal

abbrev pub invariant-clients : goal.invariant-clients
invariant-clients l = (length l.table.items ≡ l.client) × IsTable l.masters l.table.items
