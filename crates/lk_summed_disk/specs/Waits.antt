-- Appended bytes of a file that wait in memory, before the device below has them.
use Rattle.std.specs.Prelude.{◌≡◌, false, length}
use Rattle.lk_disk.specs.Disk.{Disk, contents, appended, AppendsSome}
use Rattle.lk_disk.specs.Buffers.{front}
use Rattle.lk_summed_disk.specs.declared.waiting.Waiting.{Waiting}

-- both together: the bytes that wait follow those of the file below that count, its first ones
abbrev pub gathered : Waiting → Disk → Disk
gathered w d = appended (front w.size d) w.bytes.items

-- unless a call has failed, all bytes of the file below count; after those that count it has none but the first of
-- those that wait
pub record Waits (w : Waiting) (d : Disk) : Type 0 where
  pub counted : w.failed ≡ false → w.size ≡ length (contents d)
  pub no_more : AppendsSome w.bytes.items (front w.size d) d
