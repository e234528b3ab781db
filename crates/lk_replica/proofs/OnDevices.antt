-- The disks of a store whose device is one in memory.
use Rattle.std.proofs.Common.{◌≡◌, refl, sym, subst}
use Rattle.lk_disk.specs.Disk.{Disk}
use Rattle.lk_memory_disk.specs.Memory.{disk_of}
use Rattle.lk_disk.specs.declared.device.Side.{Side}
use Rattle.lk_disk.specs.declared.device.Side.TheVariants.{A, B}
use Rattle.lk_log.specs.StoreValue.{StoreValue, disks}
use Rattle.lk_replica.specs.ReplicaValue.{device_of}

device_disks : (s : StoreValue) (side : Side) → disks s side ≡ disk_of (device_of s) side
device_disks s A = refl
device_disks s B = refl

-- what holds of the disks of the store holds of those of the device
pub on_device : (P : (Side → Disk) → Type 0) (s : StoreValue) → P (disks s) → P (disk_of (device_of s))
on_device P s p = subst P (λ i side. device_disks s side i) p

-- and the other way
pub off_device : (P : (Side → Disk) → Type 0) (s : StoreValue) → P (disk_of (device_of s)) → P (disks s)
off_device P s p = subst P (λ i side. sym (device_disks s side) i) p
