-- What a stop leaves of a disk, of which it keeps no unsynced byte.
use Rattle.std.proofs.Common.{◌≡◌, ◌∙◌, ◌++◌, List, [], ap, append-nil, length, take}
use Rattle.lk_disk.specs.Disk.{Disk, contents, after_stop}

pub synced_is_left : (d : Disk) → length (contents (after_stop 0 d)) ≡ length d.synced
synced_is_left d = ap length (append-nil (d.synced ++ take 0 d.unsynced) ∙ append-nil d.synced)
