-- Those that are left decide.
use Rattle.std.proofs.Common.{drop}
use Rattle.std.specs.List.{AllByRecursion}
use Rattle.lk_types.specs.Ranges.{IsClient}
use Rattle.lk_locks.proofs.sharers.facts_of.Given as goal

abbrev pub invariant-loop-client : goal.invariant-loop-client
invariant-loop-client l = AllByRecursion IsClient (drop l.client-index l.clients) → AllByRecursion IsClient l.clients
