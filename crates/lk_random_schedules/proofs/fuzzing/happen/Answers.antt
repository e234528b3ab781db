use Rattle.std.proofs.Common.{rules, []}
use Rattle.std.proofs.lemmas.Result.{on_ok_weaker}
use Rattle.lk_random_schedules.proofs.Adding.{adds_on}
use Rattle.lk_random_schedules.proofs.Happening.{happens_instead}
use Rattle.lk_random_schedules.proofs.fuzzing.happen.Goals as goal

pub returns-in-Err-clause-happens : goal.returns-in-Err-clause-happens
returns-in-Err-clause-happens g c =
    let by = c.in-Err.ensures.skipped c.in-Err.refused (search rules) (search rules) in
    on_ok_weaker c.replace_event.result
    (λ passes. happens_instead g.R.MemoryReplica.behaves c.args.world.now c.apply.new.world c.replace_event.new.world
    c.args.event c.in-Err.refused (search rules) by.0 by.1.0 passes) c.replace_event.ensures.replaces

pub returns-in-Err-clause-adds : goal.returns-in-Err-clause-adds
returns-in-Err-clause-adds g c =
    let by = c.in-Err.ensures.skipped c.in-Err.refused (search rules) (search rules) in
    on_ok_weaker c.replace_event.result
    (λ adds. adds_on g.R.MemoryReplica.behaves c.args.world.now c.apply.new.world c.replace_event.new.world
    c.args.transcript.now c.apply.new.self c.replace_event.new.transcript ([], by.1) adds) c.replace_event.ensures.adds
