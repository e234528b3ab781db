use Rattle.lk_server_replica.proofs.Sayings.{gathers_of, silent_of, ended_of, of_groups}
use Rattle.lk_server_replica.proofs.server_replica.ReplicaServerReplica.add_step.Goals as goal

pub returns-clause-gathers : goal.returns-clause-gathers
returns-clause-gathers g c =
    let m = g.M.Machine in
    let d = g.D.LogDisk in
    let e = c.add_step.ensures in
    gathers_of m.meaning m.IsText d.is_honest d.is_metered c.args.self.now c.add_step.new.self c.args.group.now
    c.add_step.new.group c.args.input c.add_step.result e.goes e.keeps e.disks e.grows e.exact e.alive e.failed

pub returns-clause-silent : goal.returns-clause-silent
returns-clause-silent g c =
    let m = g.M.Machine in
    let d = g.D.LogDisk in
    let e = c.add_step.ensures in
    silent_of m.meaning m.IsText d.is_honest d.is_metered c.args.self.now c.add_step.new.self c.args.group.now
    c.add_step.new.group c.args.input c.add_step.result e.refused e.disks e.grows

pub returns-clause-broken : goal.returns-clause-broken
returns-clause-broken g c =
    let m = g.M.Machine in
    let d = g.D.LogDisk in
    ended_of m.meaning m.IsText d.is_honest d.is_metered c.add_step.result c.args.self.now
    c.add_step.new.self c.add_step.ensures.refused

pub returns-clause-told : goal.returns-clause-told
returns-clause-told g c =
    let m = g.M.Machine in
    let d = g.D.LogDisk in
    of_groups m.meaning m.IsText d.is_honest d.is_metered c.add_step.result c.args.self.now
    c.add_step.new.self c.add_step.ensures.refused
