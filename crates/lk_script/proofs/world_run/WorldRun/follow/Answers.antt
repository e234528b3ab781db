use Rattle.lk_script.proofs.Following.{once}
use Rattle.lk_script.proofs.world_run.WorldRun.follow.Goals as goal

pub returns-in-Once-clause-follows : goal.returns-in-Once-clause-follows
returns-in-Once-clause-follows g c =
    rw c.in-Once.is
    (once g.R.MemoryReplica.behaves c.in-Once.event c.happen.result c.args.self.now.world c.happen.new.self.world
    c.args.self.now.done c.happen.new.self.done c.happen.ensures.does c.happen.ensures.refused)
