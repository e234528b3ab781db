-- One tactic for each goal that a wrong body breaks.
use Rattle.std.proofs.Common.{rules}
use Rattle.lk_log.proofs.store.Store.into_disks.Goals as goal

pub returns-clause-live_disk : goal.returns-clause-live_disk
returns-clause-live_disk g c = search rules

pub returns-clause-other_disk : goal.returns-clause-other_disk
returns-clause-other_disk g c = search rules

pub returns-clause-failures : goal.returns-clause-failures
returns-clause-failures g c = search rules

pub returns-clause-meter : goal.returns-clause-meter
returns-clause-meter g c = search rules
