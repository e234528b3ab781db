-- Files that stay short.
use Rattle.std.proofs.Common.{◌≡◌, ℕ, ◌≤◌, [], ◌++◌, length, take, ap, sym, subst, arith, append-nil}
use Rattle.std.proofs.lemmas.List.{length-take, length-append}
use Rattle.lk_types.specs.Limits.{max_base_of}
use Rattle.lk_disk.specs.Disk.{Disk, contents, after_stop}
use Rattle.lk_disk.specs.declared.device.Side.{Side}
use Rattle.lk_log.specs.Rooms.{StaysWithin}
use Rattle.lk_log.proofs.Room.{most_base, refused_room, never_longer}
use Rattle.lk_sim_nodes.specs.Rooms.{AreShort}

-- after a step
pub stepped_short : (old new : Side → Disk) → StaysWithin 132704 old new → AreShort old → AreShort new
stepped_short old new stays short = never_longer old new stays short

-- after a Base that was written
pub based_short : (alpha : ℕ) (old new : Side → Disk) → StaysWithin (max_base_of alpha) old new → AreShort old
    → AreShort new
based_short alpha old new stays short =
    never_longer old new (refused_room (max_base_of alpha) old new (most_base alpha) stays) short

pub same_short : (old new : Side → Disk) → ((s : Side) → new s ≡ old s) → AreShort old → AreShort new
same_short old new same short s = subst (λ (d : Disk). length (contents d) ≤ 262144) (sym (same s)) (short s)

pub empty_short : (disks : Side → Disk)
    → ((s : Side) → disks s ≡ record { synced = []; unsynced = [] }) → AreShort disks
empty_short disks empty s = subst (λ (d : Disk). length (contents d) ≤ 262144) (sym (empty s)) (omega arith)

kept_length : (k : ℕ) (d : Disk) → length (contents (after_stop k d)) ≤ length (contents d)
kept_length k d = omega (
  arith,
  ap length (append-nil (d.synced ++ take k d.unsynced)),
  length-append d.synced (take k d.unsynced),
  length-take k d.unsynced,
  length-append d.synced d.unsynced,
)

-- after a stop
pub kept_short : (old new : Side → Disk) → ((s : Side) → (k : ℕ) × (new s ≡ after_stop k (old s)))
    → AreShort old → AreShort new
kept_short old new kept short s =
    omega (arith, ap (λ (d : Disk). length (contents d)) (kept s).1, kept_length (kept s).0 (old s), short s)
