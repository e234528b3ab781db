use Rattle.std.proofs.Common.{subst}
use Rattle.lk_disk.specs.Files.{left_of}
use Rattle.lk_disk.specs.Buffers.{BufferedValue, known_of, LeavesNoMore}
use Rattle.lk_disk.proofs.Buffering.{leaves_no_more}
use Rattle.lk_disk.proofs.buffered_file.BufferedFile.below.Goals as goal

pub returns : goal.returns
returns g c honest =
    let b = c.self.inside in
    let f = g.F.AppendFile.file b.below in
    subst (λ (v : BufferedValue). LeavesNoMore (left_of f) (left_of (known_of v))) c.self.view_is
    (leaves_no_more b.is_short b.size b.pending.items f (c.self.invariant honest).1)
