use Rattle.std.proofs.Common.{rules, []}
use Rattle.std.proofs.lemmas.Result.{on_ok_weaker}
use Rattle.lk_sim_nodes.specs.declared.refused.Refused.TheVariants.{NotUp}
use Rattle.lk_random_schedules.proofs.Adding.{adds_on}
use Rattle.lk_random_schedules.proofs.Happening.{passes_again}
use Rattle.lk_random_schedules.proofs.fuzzing.replace_event.Goals as goal

pub returns-in-Err-NotUp-clause-replaces : goal.returns-in-Err-NotUp-clause-replaces
returns-in-Err-NotUp-clause-replaces g c =
    let by = c.in-Err-NotUp.ensures.skipped NotUp (search rules) tt in
    on_ok_weaker c.apply-in-Err-NotUp.result
    (λ does. passes_again g.R.MemoryReplica.behaves c.args.world.now c.apply.new.world c.apply-in-Err-NotUp.new.world
    _ (search rules) by.0 by.1.0 does) c.apply-in-Err-NotUp.ensures.does

pub returns-in-Err-NotUp-clause-adds : goal.returns-in-Err-NotUp-clause-adds
returns-in-Err-NotUp-clause-adds g c =
    let by = c.in-Err-NotUp.ensures.skipped NotUp (search rules) tt in
    on_ok_weaker c.apply-in-Err-NotUp.result
    (λ adds. adds_on g.R.MemoryReplica.behaves c.args.world.now c.apply.new.world c.apply-in-Err-NotUp.new.world
    c.args.transcript.now c.apply.new.self c.apply-in-Err-NotUp.new.self ([], by.1) (_, adds))
    c.apply-in-Err-NotUp.ensures.adds
