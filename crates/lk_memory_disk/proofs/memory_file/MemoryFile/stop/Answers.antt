use Rattle.std.proofs.Common.{subst, sym}
use Rattle.lk_disk.specs.Disk.{Disk, MayLeave, contents}
use Rattle.lk_disk.specs.Files.{left_of}
use Rattle.lk_memory_disk.specs.CountedFile.{CountedFile, file_showing}
use Rattle.lk_memory_disk.proofs.Keep.{keeps_image_of}
use Rattle.lk_memory_disk.proofs.memory_file.MemoryFile.stop.Goals as goal

pub returns-clause-image : goal.returns-clause-image
returns-clause-image c =
    let kept = keeps_image_of c.args.unsynced c.self.inside.shown c.self.inside.bytes in
    subst (λ (f : CountedFile). MayLeave (left_of f.file) (contents c.stop.new.self)) c.self.view_is
    (subst (λ (d : Disk). MayLeave (left_of (file_showing c.self.inside.shown c.self.inside.bytes)) (contents d))
    (sym c.stop.ensures) kept)
