use Rattle.std.proofs.Common.{inl, rules}
use Rattle.lk_log.proofs.BeginLaws.{begins_narrows}
use Rattle.lk_log.proofs.ImageLaws.{found_is_live}
use Rattle.lk_log.proofs.reopening.open.Goals as goal

pub returns-in_err-cut_and_sync-clause-stays : goal.returns-in_err-cut_and_sync-clause-stays
returns-in_err-cut_and_sync-clause-stays g c honest found whose zero =
    begins_narrows (g.D.LogDisk.disk c.args.device.now) (g.D.LogDisk.disk c.cut_and_sync.new.device) whose zero
    (c.cut_and_sync.ensures.narrows honest c.args.file.entries.items found)

pub returns-in_err-standing-clause-stays : goal.returns-in_err-standing-clause-stays
returns-in_err-standing-clause-stays g c honest found whose zero =
    begins_narrows (g.D.LogDisk.disk c.args.device.now) (g.D.LogDisk.disk c.cut_and_sync.new.device) whose zero
    (c.cut_and_sync.ensures.narrows honest c.args.file.entries.items found)

pub returns-clause-stays : goal.returns-clause-stays
returns-clause-stays g c honest found whose zero =
    begins_narrows (g.D.LogDisk.disk c.args.device.now) (g.D.LogDisk.disk c.cut_and_sync.new.device) whose zero
    (c.cut_and_sync.ensures.narrows honest c.args.file.entries.items found)

pub returns-clause-opens : goal.returns-clause-opens
returns-clause-opens g c honest found whose zero own = record {
  entries = c.args.file.entries.items;
  found = inl (found_is_live
      (g.D.LogDisk.disk c.args.device.now) c.args.live c.args.file.entries.items
      c.args.file.end c.args.file.size found);
  holds = c.in_ok-cut_and_sync.ensures.holds honest c.args.file.entries.items found;
  header = own;
  generation_is = search rules;
  format_is = search rules;
  stands = c.in_ok-standing.ensures;
}

pub returns-in_err-cut_and_sync-clause-room : goal.returns-in_err-cut_and_sync-clause-room
returns-in_err-cut_and_sync-clause-room g c honest = c.cut_and_sync.ensures.room honest

pub returns-in_err-cut_and_sync-clause-cause : goal.returns-in_err-cut_and_sync-clause-cause
returns-in_err-cut_and_sync-clause-cause g c = search rules depth 2

pub returns-in_err-cut_and_sync-clause-metered : goal.returns-in_err-cut_and_sync-clause-metered
returns-in_err-cut_and_sync-clause-metered g c = search rules depth 2

pub returns-in_err-standing-clause-room : goal.returns-in_err-standing-clause-room
returns-in_err-standing-clause-room g c honest = c.cut_and_sync.ensures.room honest

pub returns-in_err-standing-clause-cause : goal.returns-in_err-standing-clause-cause
returns-in_err-standing-clause-cause g c = search rules depth 2

pub returns-in_err-standing-clause-metered : goal.returns-in_err-standing-clause-metered
returns-in_err-standing-clause-metered g c = search rules depth 2

pub returns-clause-room : goal.returns-clause-room
returns-clause-room g c honest = c.cut_and_sync.ensures.room honest

pub returns-clause-cause : goal.returns-clause-cause
returns-clause-cause g c = search rules depth 2

pub returns-clause-metered : goal.returns-clause-metered
returns-clause-metered g c = search rules depth 2
