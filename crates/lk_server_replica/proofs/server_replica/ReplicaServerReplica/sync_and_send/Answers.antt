use Rattle.lk_server_replica.proofs.Sayings.{synced_of, tells_of, unsynced_of, ended_of, of_groups}
use Rattle.lk_server_replica.proofs.server_replica.ReplicaServerReplica.sync_and_send.Goals as goal

pub returns-clause-hands : goal.returns-clause-hands
returns-clause-hands g c =
    let m = g.M.Machine in
    let d = g.D.LogDisk in
    let e = c.sync_and_send.ensures in
    synced_of m.meaning m.IsText d.is_honest d.is_metered g.P.Post.Carries c.args.self.now c.sync_and_send.new.self
    c.args.group.now c.args.post.now c.sync_and_send.new.post g.P.Post.sent g.P.Post.failures g.P.Post.is_observable
    c.sync_and_send.result e.fits e.disks e.syncs e.delivers e.exact e.alive

pub returns-clause-tells : goal.returns-clause-tells
returns-clause-tells g c =
    let m = g.M.Machine in
    let d = g.D.LogDisk in
    tells_of m.meaning m.IsText d.is_honest d.is_metered g.P.Post.Carries c.args.self.now c.sync_and_send.new.self
    c.args.group.now c.args.post.now c.sync_and_send.new.post g.P.Post.sent g.P.Post.failures g.P.Post.is_observable
    c.sync_and_send.result c.sync_and_send.ensures.delivers

pub returns-clause-silent : goal.returns-clause-silent
returns-clause-silent g c =
    let m = g.M.Machine in
    let d = g.D.LogDisk in
    let e = c.sync_and_send.ensures in
    unsynced_of m.meaning m.IsText d.is_honest d.is_metered g.P.Post.Carries c.args.self.now c.sync_and_send.new.self
    c.args.group.now c.args.post.now c.sync_and_send.new.post c.sync_and_send.result e.refused e.disks

pub returns-clause-alive : goal.returns-clause-alive
returns-clause-alive g c = c.sync_and_send.ensures.alive

pub returns-clause-broken : goal.returns-clause-broken
returns-clause-broken g c =
    let m = g.M.Machine in
    let d = g.D.LogDisk in
    ended_of m.meaning m.IsText d.is_honest d.is_metered c.sync_and_send.result c.args.self.now c.sync_and_send.new.self
    c.sync_and_send.ensures.refused

pub returns-clause-told : goal.returns-clause-told
returns-clause-told g c =
    let m = g.M.Machine in
    let d = g.D.LogDisk in
    of_groups m.meaning m.IsText d.is_honest d.is_metered c.sync_and_send.result c.args.self.now
    c.sync_and_send.new.self
    c.sync_and_send.ensures.refused
