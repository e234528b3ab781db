use Rattle.std.proofs.Common.{rules, ◌≡◌, length, refl, sym, subst}
use Rattle.lk_memory_disk.specs.Memory.{Memory, disk_of}
use Rattle.lk_node.specs.Leavings.{DisksFit}
use Rattle.lk_replica.specs.Behaviours.{disks_by}
use Rattle.lk_sim_nodes.specs.Rooms.{AreShort}
use Rattle.lk_sim_nodes.proofs.Faults.{sound_packed}
use Rattle.lk_sim_nodes.proofs.Shortness.{based_short}
use Rattle.lk_sim_nodes.proofs.Fitting.{node_fits}
use Rattle.lk_sim_nodes.proofs.calls.compact_node.Goals as goal
use Rattle.lk_sim_nodes.specs.declared.sim_node.RunState.TheVariants.{Up}

pub returns-in-Ok-clause-goes : goal.returns-in-Ok-clause-goes
returns-in-Ok-clause-goes g c h w lawful f q same =
    let is : c.args.sim_node.now.run_state ≡ Up c.in-Up.replica = search rules in
    record {
      replica = c.compact.new.self;
      up = refl;
      goes = rw (c.new.ensures.items, c.new-in-Ok.ensures.items)
          (c.in-Ok.ensures.goes h c.args.sim_node.now.number (node_fits _ _ _ h w _ _ lawful
          (f.up c.in-Up.replica is)));
      room = based_short (length (g.R.MemoryReplica.whole c.in-Up.replica).roster.sets)
          (disks_by g.R.MemoryReplica.behaves c.in-Up.replica)
          (disks_by g.R.MemoryReplica.behaves c.compact.new.self) c.compact.ensures.room (f.up c.in-Up.replica is).room;
    }

pub returns-in-Err-clause-falls : goal.returns-in-Err-clause-falls
returns-in-Err-clause-falls g c h w lawful f d down =
    let is : c.args.sim_node.now.run_state ≡ Up c.in-Up.replica = search rules in
    c.stop_node.ensures.fits h w
    (subst (λ k. DisksFit g.R.MemoryReplica.meaning h k (disk_of c.remove_device-device.result))
    (sym c.remove_device-device.ensures.number)
    (subst (λ (m : Memory). DisksFit g.R.MemoryReplica.meaning h c.args.sim_node.now.number (disk_of m))
    (sym c.remove_device-device.ensures.is)
    (c.compact.ensures.ends h c.args.sim_node.now.number (node_fits _ _ _ h w _ _ lawful (f.up c.in-Up.replica is)))))
    (subst (λ (m : Memory). AreShort (disk_of m)) (sym c.remove_device-device.ensures.is)
    (based_short (length (g.R.MemoryReplica.whole c.in-Up.replica).roster.sets)
    (disks_by g.R.MemoryReplica.behaves c.in-Up.replica)
    (disks_by g.R.MemoryReplica.behaves c.compact.new.self) c.compact.ensures.room (f.up c.in-Up.replica is).room))

pub returns-in-Err-clause-told : goal.returns-in-Err-clause-told
returns-in-Err-clause-told g c = c.stop_node.ensures.told (sound_packed _ c.in-Err.ensures.told)
