use Rattle.lk_replica.specs.Behaviours.{disks_by}
use Rattle.lk_sim.proofs.Networks.{network_holds, promises_of}
use Rattle.lk_sim.proofs.laws.networks_guarantee_what_worlds_do.Goals as goal

pub returns : goal.returns
returns g c genesis world_states last all =
    let r = g.R.MemoryReplica in
    promises_of r.Shows r.behaves r.whole r.meaning g.met.R.MemoryReplica.sums_up last
    (network_holds r.Shows (disks_by r.behaves) r.meaning genesis world_states last all)
