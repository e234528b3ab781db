-- What a device with hidden files shows.
use Rattle.std.proofs.Common.{◌≡◌, Bool, true, false, ap}
use Rattle.lk_disk.specs.Disk.{Disk, other}
use Rattle.lk_disk.specs.declared.device.Side.{Side}
use Rattle.lk_disk.specs.declared.device.Side.TheVariants.{A, B}
use Rattle.lk_summed_disk.specs.Hiding.{hides, unless_hidden, without}
use Rattle.lk_summed_disk.specs.declared.hiding_disk.Hidden.{Hidden}

-- where no file is hidden
pub shows_all : (h : Hidden) (disks : Side → Disk) → h.a ≡ false → h.b ≡ false → (s : Side)
    → unless_hidden (hides h s) (disks s) ≡ disks s
shows_all h disks a b A = ap (λ (x : Bool). unless_hidden x (disks A)) a
shows_all h disks a b B = ap (λ (x : Bool). unless_hidden x (disks B)) b

-- where one more is hidden
pub hides_more : (side : Side) (old new : Hidden) (disks : Side → Disk) → hides new side ≡ true
    → hides new (other side) ≡ hides old (other side) → (s : Side)
    → unless_hidden (hides new s) (disks s) ≡ without side (λ t. unless_hidden (hides old t) (disks t)) s
hides_more A old new disks here there A = ap (λ (x : Bool). unless_hidden x (disks A)) here
hides_more A old new disks here there B = ap (λ (x : Bool). unless_hidden x (disks B)) there
hides_more B old new disks here there A = ap (λ (x : Bool). unless_hidden x (disks A)) there
hides_more B old new disks here there B = ap (λ (x : Bool). unless_hidden x (disks B)) here
