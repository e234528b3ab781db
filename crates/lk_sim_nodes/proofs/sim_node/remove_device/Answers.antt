use Rattle.std.proofs.Common.{rules, ◌≡◌, sym, subst}
use Rattle.lk_memory_disk.specs.Memory.{Memory, disk_of}
use Rattle.lk_node.specs.Leavings.{DisksFit}
use Rattle.lk_sim_nodes.specs.Rooms.{AreShort}
use Rattle.lk_sim_nodes.proofs.sim_node.remove_device.Goals as goal
use Rattle.lk_sim_nodes.specs.declared.sim_node.RunState.TheVariants.{Up, Down}

pub returns-in-Up-clause-fits : goal.returns-in-Up-clause-fits
returns-in-Up-clause-fits g c h w f =
    let is : c.args.sim_node.now.run_state ≡ Up c.in-Up.replica = search rules in
    subst (λ (m : Memory). DisksFit g.R.MemoryReplica.meaning h c.args.sim_node.now.number (disk_of m))
    (sym c.into_disks.ensures.is) (f.up c.in-Up.replica is).left

pub returns-in-Down-clause-fits : goal.returns-in-Down-clause-fits
returns-in-Down-clause-fits g c h w f =
    let is : c.args.sim_node.now.run_state ≡ Down c.in-Down.device = search rules in
    f.down c.in-Down.device is

pub returns-in-Up-clause-room : goal.returns-in-Up-clause-room
returns-in-Up-clause-room g c h w f =
    let is : c.args.sim_node.now.run_state ≡ Up c.in-Up.replica = search rules in
    subst (λ (m : Memory). AreShort (disk_of m)) (sym c.into_disks.ensures.is) (f.up c.in-Up.replica is).room

pub returns-in-Down-clause-room : goal.returns-in-Down-clause-room
returns-in-Down-clause-room g c h w f =
    let is : c.args.sim_node.now.run_state ≡ Down c.in-Down.device = search rules in
    f.room c.in-Down.device is
