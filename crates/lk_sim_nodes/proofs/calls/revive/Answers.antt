use Rattle.std.proofs.Common.{◌≡◌, refl, sym, subst}
use Rattle.lk_memory_disk.specs.Memory.{disk_of}
use Rattle.lk_node.specs.Leavings.{header_of, DisksFit}
use Rattle.lk_replica.specs.Behaviours.{disks_by}
use Rattle.lk_sim_nodes.proofs.Faults.{sound_back}
use Rattle.lk_sim_nodes.proofs.Fitting.{same_header}
use Rattle.lk_sim_nodes.proofs.Shortness.{based_short}
use Rattle.lk_sim_nodes.proofs.calls.revive.Goals as goal

pub returns-in-Ok-clause-goes : goal.returns-in-Ok-clause-goes
returns-in-Ok-clause-goes g c h w same lawful f q up =
    let n = c.remove_device-device.new.sim_node.number in
    let whose : c.new.result ≡ header_of h.genesis n =
    same_header c.new.result h.genesis c.args.genesis.now n _ _ _ c.new.ensures c.copy.ensures.cluster
    c.copy.ensures.alpha c.copy.ensures.members same in
    let left : DisksFit g.R.MemoryReplica.meaning h n (disk_of c.remove_device-device.result) =
    subst (λ k. DisksFit g.R.MemoryReplica.meaning h k (disk_of c.remove_device-device.result))
    (sym c.remove_device-device.ensures.number) (c.remove_device-device.ensures.fits h w f) in
    record {
      replica = c.in-Ok.revived.replica;
      up = refl;
      goes = rw c.new-in-Ok.ensures.items (c.in-Ok.ensures.up h n whose lawful left);
      room = based_short c.new.result.alpha (disk_of c.remove_device-device.result)
          (disks_by g.R.MemoryReplica.behaves c.in-Ok.revived.replica) c.in-Ok.ensures.room
          (c.remove_device-device.ensures.room h w f);
    }

pub returns-in-Err-clause-falls : goal.returns-in-Err-clause-falls
returns-in-Err-clause-falls g c h w same lawful f d down =
    let n = c.remove_device-device.new.sim_node.number in
    let whose : c.new.result ≡ header_of h.genesis n =
    same_header c.new.result h.genesis c.args.genesis.now n _ _ _ c.new.ensures c.copy.ensures.cluster
    c.copy.ensures.alpha c.copy.ensures.members same in
    let left : DisksFit g.R.MemoryReplica.meaning h n (disk_of c.remove_device-device.result) =
    subst (λ k. DisksFit g.R.MemoryReplica.meaning h k (disk_of c.remove_device-device.result))
    (sym c.remove_device-device.ensures.number) (c.remove_device-device.ensures.fits h w f) in
    c.stop_node.ensures.fits h w (c.in-Err.ensures.down h n whose lawful left).1
    (based_short c.new.result.alpha (disk_of c.remove_device-device.result) (disk_of c.in-Err.refused.device)
    c.in-Err.ensures.room_err (c.remove_device-device.ensures.room h w f))

pub returns-in-Err-clause-told : goal.returns-in-Err-clause-told
returns-in-Err-clause-told g c h w same lawful f =
    let n = c.remove_device-device.new.sim_node.number in
    let whose : c.new.result ≡ header_of h.genesis n =
    same_header c.new.result h.genesis c.args.genesis.now n _ _ _ c.new.ensures c.copy.ensures.cluster
    c.copy.ensures.alpha c.copy.ensures.members same in
    let left : DisksFit g.R.MemoryReplica.meaning h n (disk_of c.remove_device-device.result) =
    subst (λ k. DisksFit g.R.MemoryReplica.meaning h k (disk_of c.remove_device-device.result))
    (sym c.remove_device-device.ensures.number) (c.remove_device-device.ensures.fits h w f) in
    c.stop_node.ensures.told (sound_back _ (c.in-Err.ensures.down h n whose lawful left).0)
