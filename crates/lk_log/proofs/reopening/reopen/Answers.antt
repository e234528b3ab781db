use Rattle.lk_log.proofs.BeginLaws.{begins_pick}
use Rattle.lk_log.proofs.Room.{within_pick}
use Rattle.lk_types.specs.Limits.{max_base_of}
use Rattle.lk_log.proofs.reopening.reopen.Goals as goal

-- the disks of the store are those of the device
pub returns-in-Ok-clause-stays : goal.returns-in-Ok-clause-stays
returns-in-Ok-clause-stays g c honest =
    begins_pick c.in-Ok.opened.live (g.D.LogDisk.disk c.args.device)
    (g.D.LogDisk.disk c.recover.new.device) c.args.header.now c.args.zero.now (c.in-Ok.ensures.stays honest)

pub returns-in-Ok-clause-room : goal.returns-in-Ok-clause-room
returns-in-Ok-clause-room g c honest =
    within_pick (max_base_of c.args.header.now.alpha) c.in-Ok.opened.live (g.D.LogDisk.disk c.args.device)
    (g.D.LogDisk.disk c.recover.new.device) (c.recover.ensures.room honest)
