use Rattle.lk_disk.specs.declared.device.Side.TheVariants.{A, B}
use Rattle.lk_memory_disk.proofs.Keep.{keeps_image}
use Rattle.lk_memory_disk.proofs.memory_disk.MemoryDisk.stop.Goals as goal

pub returns-clause-image : goal.returns-clause-image
returns-clause-image c = elim [
  | A ↦ rw (c.stop.ensures, ← c.self.view_is) (keeps_image c.args.x c.self.inside.a)
  | B ↦ rw (c.stop-2.ensures, ← c.self.view_is) (keeps_image c.args.y c.self.inside.b)
]
