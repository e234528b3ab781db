use Rattle.lk_random_schedules.proofs.Adding.{adds_on}
use Rattle.lk_random_schedules.proofs.fuzzing.start.Goals as goal

pub returns-clause-adds : goal.returns-clause-adds
returns-clause-adds g c =
    let two = adds_on g.R.MemoryReplica.behaves c.args.world.now c.start_one.new.world c.start_one-2.new.world
    c.args.transcript.now c.start_one.new.transcript c.start_one-2.new.transcript c.in_ok-start_one.ensures.adds
    c.in_ok-start_one-2.ensures.adds in
    adds_on g.R.MemoryReplica.behaves c.args.world.now c.start_one-2.new.world c.start_one-3.new.world
    c.args.transcript.now c.start_one-2.new.transcript c.start_one-3.new.transcript two c.in_ok-start_one-3.ensures.adds
