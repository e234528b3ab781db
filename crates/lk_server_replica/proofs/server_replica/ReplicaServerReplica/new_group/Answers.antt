use Rattle.lk_server_replica.proofs.Sayings.{gathers_nothing}
use Rattle.lk_server_replica.proofs.server_replica.ReplicaServerReplica.new_group.Goals as goal

pub returns : goal.returns
returns g c =
    let m = g.M.Machine in
    let d = g.D.LogDisk in
    record {
      empty = gathers_nothing m.meaning m.IsText d.is_honest d.is_metered c.args.self.now
          c.new.result c.new.ensures;
    }
