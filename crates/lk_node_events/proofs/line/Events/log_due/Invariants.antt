-- nothing has changed but what waits
use Rattle.std.proofs.Common.{◌≡◌}
use Rattle.lk_node_events.proofs.line.Events.log_due.Given as goal

abbrev pub invariant-kinds : goal.invariant-kinds
invariant-kinds g l = l.watch ≡ record l.initial.watch { rate_limits = l.watch.rate_limits }
