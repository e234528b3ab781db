-- the disks are as they were
use Rattle.std.proofs.Common.{◌≡◌}
use Rattle.lk_disk.specs.declared.device.Side.{Side}
use Rattle.lk_node_files.proofs.refusals.write_whose.Given as goal

abbrev pub invariant-files : goal.invariant-files
invariant-files g l =
    g.D.LogDisk.is_honest → (s : Side) → g.D.LogDisk.disk l.device s ≡ g.D.LogDisk.disk l.initial.device s
