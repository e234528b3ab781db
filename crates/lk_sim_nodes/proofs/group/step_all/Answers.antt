use Rattle.std.proofs.Common.{rules, ◌≡◌, sym, subst}
use Rattle.lk_memory_disk.specs.Memory.{Memory, disk_of}
use Rattle.lk_node.specs.Leavings.{DisksFit}
use Rattle.lk_replica.specs.Behaviours.{disks_by}
use Rattle.lk_replica.specs.Together.{EachLeavesFit, parts_of}
use Rattle.lk_node_interface.specs.Faults.{fault_number, RefusedAfter}
use Rattle.lk_sim_nodes.specs.Ends.{BreaksTogether}
use Rattle.lk_sim_nodes.specs.Outcomes.{HasStoppedOutOfMemory}
use Rattle.lk_sim_nodes.specs.Rooms.{AreShort}
use Rattle.lk_sim_nodes.specs.SimNodes.{stopped_on, fallen_on}
use Rattle.lk_sim_nodes.specs.declared.sim_node.RunState.TheVariants.{Up}
use Rattle.lk_sim_nodes.proofs.Fitting.{node_fits, down_left}
use Rattle.lk_sim_nodes.proofs.Together.{goes_up_to_all, left_up_to, on_err_of}
use Rattle.lk_sim_nodes.proofs.Shortness.{stepped_short}
use Rattle.lk_sim_nodes.proofs.Stopping.{sent_short}
use Rattle.lk_sim_nodes.proofs.group.step_all.Goals as goal

pub returns-in-Ok-clause-goes : goal.returns-in-Ok-clause-goes
returns-in-Ok-clause-goes g c r up genesis held shown q same =
    let b = g.R.MemoryReplica.behaves in
    let is : c.args.sim_node.now.run_state ≡ Up c.in-Up.replica = search rules in
    let own : r ≡ c.in-Up.replica = cc (up, is) in
    let now : c.count_sends-stop.new.replica ≡ q = cc same in
    let n = c.args.sim_node.now.number in
    let steps = c.in-Ok.taken.steps.items in
    let sent = c.count_sends-stop.new.sent.items in
    let inputs = c.args.inputs.items in
    subst (λ z. EachLeavesFit g.R.MemoryReplica.Shows (disks_by b) g.R.MemoryReplica.meaning n r inputs z
    (parts_of steps sent)) now
    (subst (λ z. EachLeavesFit g.R.MemoryReplica.Shows
    (disks_by b) g.R.MemoryReplica.meaning n z inputs c.count_sends-stop.new.replica (parts_of steps sent)) (sym own)
    (goes_up_to_all b g.met.R.MemoryReplica.traps_alone g.R.MemoryReplica.Shows g.met.R.MemoryReplica.shows_on
    g.R.MemoryReplica.meaning n inputs c.in-Up.replica c.take_all.new.self c.count_sends-stop.new.replica steps
    c.count_sends-stop.result _ sent c.count_sends-stop.ensures.sends
    (c.in-Ok.ensures.goes genesis n held (subst (λ z. g.R.MemoryReplica.Shows z genesis n held) own shown))))

pub returns-in-Ok-clause-leaves : goal.returns-in-Ok-clause-leaves
returns-in-Ok-clause-leaves g c h w lawful f heard =
    let b = g.R.MemoryReplica.behaves in
    let is : c.args.sim_node.now.run_state ≡ Up c.in-Up.replica = search rules in
    let u = f.up c.in-Up.replica is in (
      left_up_to b g.met.R.MemoryReplica.traps_alone g.R.MemoryReplica.Shows g.met.R.MemoryReplica.shows_on
          g.R.MemoryReplica.meaning h c.args.sim_node.now.number c.count_sends-stop.result c.take_all.new.self
          c.count_sends-stop.new.replica _ _ c.count_sends-stop.ensures.sends
          (c.take_all.ensures.ends h c.args.sim_node.now.number (node_fits _ _ _ h w _ _ lawful u) heard),
      sent_short b g.met.R.MemoryReplica.traps_alone g.R.MemoryReplica.Shows g.met.R.MemoryReplica.shows_on
          c.count_sends-stop.result c.take_all.new.self c.count_sends-stop.new.replica
          _ _ c.count_sends-stop.ensures.sends
          (stepped_short (disks_by b c.in-Up.replica) (disks_by b c.take_all.new.self) c.take_all.ensures.room u.room),
    )

-- where it has fallen

pub returns-in_err-outcome-in-Err-clause-leaves : goal.returns-in_err-outcome-in-Err-clause-leaves
returns-in_err-outcome-in-Err-clause-leaves g c h w lawful f heard =
    let b = g.R.MemoryReplica.behaves in
    let is : c.args.sim_node.now.run_state ≡ Up c.in-Up.replica = search rules in
    let u = f.up c.in-Up.replica is in
    let fits = c.stop_node.ensures.fits h w
    (subst (λ k. DisksFit g.R.MemoryReplica.meaning h k (disk_of c.remove_device-device.result))
    (sym c.remove_device-device.ensures.number)
    (subst (λ (m : Memory). DisksFit g.R.MemoryReplica.meaning h c.args.sim_node.now.number (disk_of m))
    (sym c.remove_device-device.ensures.is)
    (c.take_all.ensures.ends h c.args.sim_node.now.number (node_fits _ _ _ h w _ _ lawful u) heard)))
    (subst (λ (m : Memory). AreShort (disk_of m)) (sym c.remove_device-device.ensures.is)
    (stepped_short (disks_by b c.in-Up.replica) (disks_by b c.take_all.new.self) c.take_all.ensures.room u.room)) in
    down_left _ b _ h w c.stop_node.new.sim_node
    (stopped_on 0 0 c.remove_device-device.result) c.in_err-outcome-in-Err.ensures.halted fits

pub returns-in_ok-outcome-in-Err-clause-leaves : goal.returns-in_ok-outcome-in-Err-clause-leaves
returns-in_ok-outcome-in-Err-clause-leaves g c h w lawful f heard =
    let b = g.R.MemoryReplica.behaves in
    let is : c.args.sim_node.now.run_state ≡ Up c.in-Up.replica = search rules in
    let u = f.up c.in-Up.replica is in
    let fits = c.stop_node.ensures.fits h w
    (subst (λ k. DisksFit g.R.MemoryReplica.meaning h k (disk_of c.remove_device-device.result))
    (sym c.remove_device-device.ensures.number)
    (subst (λ (m : Memory). DisksFit g.R.MemoryReplica.meaning h c.args.sim_node.now.number (disk_of m))
    (sym c.remove_device-device.ensures.is)
    (c.take_all.ensures.ends h c.args.sim_node.now.number (node_fits _ _ _ h w _ _ lawful u) heard)))
    (subst (λ (m : Memory). AreShort (disk_of m)) (sym c.remove_device-device.ensures.is)
    (stepped_short (disks_by b c.in-Up.replica) (disks_by b c.take_all.new.self) c.take_all.ensures.room u.room)) in
    down_left _ b _ h w c.stop_node.new.sim_node
    (fallen_on c.in_ok-outcome-in-Err.ensures.fallen.left) c.in_ok-outcome-in-Err.ensures.fallen.down fits

pub returns-in_err-outcome-in-Err-clause-wants : goal.returns-in_err-outcome-in-Err-clause-wants
returns-in_err-outcome-in-Err-clause-wants g c r up =
    let b = g.R.MemoryReplica.behaves in
    let given = c.args.inputs.items in
    let is : c.args.sim_node.now.run_state ≡ Up c.in-Up.replica = search rules in
    let own : c.in-Up.replica ≡ r = cc (is, up) in
    let e = c.in_err-outcome-in-Err.ensures in
    let left : c.remove_device-device.result ≡ b.memory c.take_all.new.self = c.remove_device-device.ensures.is in
    on_err_of c.from_residual.result
    (subst (λ z. HasStoppedOutOfMemory (BreaksTogether b z given) c.stop_node.new.sim_node) own
    (record {
      number = fault_number c.in-Err.fault;
      left = c.remove_device-device.result;
      ends = (
        c.take_all.new.self,
        c.in-Err.ensures.refused.1,
        subst (λ (m : Memory). RefusedAfter (fault_number c.in-Err.fault) (b.memory c.in-Up.replica).meter m.meter)
            (sym left) c.in-Err.ensures.calls_err,
        left,
      );
      want = e.want;
      down = e.halted;
    }))
