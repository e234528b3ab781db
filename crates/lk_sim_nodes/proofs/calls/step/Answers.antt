use Rattle.std.proofs.Common.{rules, ◌≡◌, refl, sym, subst}
use Rattle.lk_memory_disk.specs.Memory.{Memory, disk_of}
use Rattle.lk_node.specs.Leavings.{DisksFit}
use Rattle.lk_sim_nodes.proofs.Fitting.{node_fits}
use Rattle.lk_replica.specs.Behaviours.{disks_by}
use Rattle.lk_sim_nodes.specs.Rooms.{AreShort}
use Rattle.lk_sim_nodes.proofs.Faults.{told_as, told_at, sound_up}
use Rattle.lk_sim_nodes.proofs.Shortness.{stepped_short}
use Rattle.lk_sim_nodes.proofs.Stopping.{goes_up_to, sent_short}
use Rattle.lk_sim_nodes.proofs.calls.step.Goals as goal
use Rattle.lk_sim_nodes.specs.declared.sim_node.RunState.TheVariants.{Up}

pub returns-in-Ok-clause-goes : goal.returns-in-Ok-clause-goes
returns-in-Ok-clause-goes g c h w lawful f input q same =
    let is : c.args.sim_node.now.run_state ≡ Up c.in-Up.replica = search rules in
    record {
      replica = c.count_sends-stop.new.replica;
      up = refl;
      goes = goes_up_to g.R.MemoryReplica.behaves g.met.R.MemoryReplica.traps_alone g.R.MemoryReplica.Shows
          g.met.R.MemoryReplica.shows_on g.R.MemoryReplica.meaning h c.args.sim_node.now.number _
          c.count_sends-stop.result
          c.take.new.self c.count_sends-stop.new.replica _ _ c.count_sends-stop.ensures.sends
          (c.in-Ok.ensures.goes h c.args.sim_node.now.number
          (node_fits _ _ _ h w _ _ lawful (f.up c.in-Up.replica is)) input);
      room = sent_short g.R.MemoryReplica.behaves g.met.R.MemoryReplica.traps_alone g.R.MemoryReplica.Shows
          g.met.R.MemoryReplica.shows_on c.count_sends-stop.result c.take.new.self c.count_sends-stop.new.replica
          _ _ c.count_sends-stop.ensures.sends
          (stepped_short (disks_by g.R.MemoryReplica.behaves c.in-Up.replica)
          (disks_by g.R.MemoryReplica.behaves c.take.new.self) c.take.ensures.room (f.up c.in-Up.replica is).room);
    }

pub returns-in-Err-clause-falls : goal.returns-in-Err-clause-falls
returns-in-Err-clause-falls g c h w lawful f input d down =
    let is : c.args.sim_node.now.run_state ≡ Up c.in-Up.replica = search rules in
    c.stop_node.ensures.fits h w
    (subst (λ k. DisksFit g.R.MemoryReplica.meaning h k (disk_of c.remove_device-device.result))
    (sym c.remove_device-device.ensures.number)
    (subst (λ (m : Memory). DisksFit g.R.MemoryReplica.meaning h c.args.sim_node.now.number (disk_of m))
    (sym c.remove_device-device.ensures.is)
    (c.in-Err.ensures.ends h c.args.sim_node.now.number (node_fits _ _ _ h w _ _ lawful
    (f.up c.in-Up.replica is)) input)))
    (subst (λ (m : Memory). AreShort (disk_of m)) (sym c.remove_device-device.ensures.is)
    (stepped_short (disks_by g.R.MemoryReplica.behaves c.in-Up.replica)
    (disks_by g.R.MemoryReplica.behaves c.take.new.self) c.take.ensures.room (f.up c.in-Up.replica is).room))

-- ---- how it ended

pub returns-in-Ok-clause-told : goal.returns-in-Ok-clause-told
returns-in-Ok-clause-told g c = told_as _ _ c.ended_at.ensures (told_at c.count_sends-stop.result _)

pub returns-in-Err-clause-told : goal.returns-in-Err-clause-told
returns-in-Err-clause-told g c = c.stop_node.ensures.told (sound_up _ c.in-Err.ensures.told)
