-- One tactic for each goal that a wrong body breaks.
use Rattle.std.proofs.Common.{rules}
use Rattle.lk_script.proofs.world_run.WorldRun.happen.Goals as goal

pub returns-in_err-print_event-clause-paces : goal.returns-in_err-print_event-clause-paces
returns-in_err-print_event-clause-paces g c = search rules

pub returns-clause-does : goal.returns-clause-does
returns-clause-does g c = search rules

pub returns-clause-paces : goal.returns-clause-paces
returns-clause-paces g c = search rules
