-- How much longer a file is after a step, apart from a Base.
use Rattle.std.proofs.Common.{◌≡◌, ℕ, ◌+◌, ◌≤◌, length, ap, sym, subst, arith}
use Rattle.lk_disk.specs.Disk.{Disk, contents}
use Rattle.lk_disk.specs.declared.device.Side.{Side}
use Rattle.lk_disk.specs.declared.device.Side.TheVariants.{A, B}
use Rattle.lk_log.specs.Rooms.{StaysWithin}
use Rattle.lk_log.specs.StoreValue.{StoreValue, pick, disks}
use Rattle.lk_recovery.specs.Compacting.{AreSame}
use Rattle.lk_recovery.specs.Rooms.{GrowsByStep, GrowsFromBase}

-- the files are as they were
pub grown_none : (old new : Side → Disk) → AreSame old new → GrowsFromBase old new
grown_none old new same s = omega (arith, ap (λ d. length (contents d)) (same s))

-- a Base was written, or was to be
pub grown_base : (most : ℕ) (old new : Side → Disk) → most ≤ 65536 → StaysWithin most old new
    → GrowsFromBase old new
grown_base most old new small stays s = omega (arith, small, stays s)

-- after that, if any, a step
pub grown_then : (most : ℕ) (old mid new : Side → Disk) → most ≤ 65536 → StaysWithin most old mid
    → GrowsFromBase mid new → GrowsFromBase old new
grown_then most old mid new small a b s = omega (arith, small, a s, b s)

-- a step's entries
pub grown_put : (old new : StoreValue) → new.live ≡ old.live
    → length (contents new.live_disk) ≤ length (contents old.live_disk) + 1632 → new.other_disk ≡ old.other_disk
    → GrowsByStep (disks old) (disks new)
grown_put old new is grows beside =
    subst (λ (side : Side). GrowsByStep (disks old) (pick side new.live_disk new.other_disk)) (sym is) (on old.live)
  where
    on : (side : Side) → GrowsByStep (pick side old.live_disk old.other_disk) (pick side new.live_disk new.other_disk)
    on A A = grows
    on A B = omega (arith, ap (λ d. length (contents d)) beside)
    on B A = omega (arith, ap (λ d. length (contents d)) beside)
    on B B = grows

pub grown_less : (old new : Side → Disk) → GrowsByStep old new → GrowsFromBase old new
grown_less old new grows s = omega (arith, grows s)
