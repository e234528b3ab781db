use Rattle.std.proofs.Common.{◌≡◌, ◌∙◌, ◌+◌, ◌≤◌, ℕ, List, slice_range, subst, sym, ap, length, rules}
use Rattle.lk_disk.specs.Disk.{contents}
use Rattle.lk_summed_disk.specs.SummedValue.{SummedValue, disk_at}
use Rattle.lk_summed_disk.proofs.DiskLaws.{decoded_contents, disk_over}
use Rattle.lk_summed_disk.proofs.summed_disk.SummedDiskLogDisk.read_into.Goals as goal

pub returns-clause-value : goal.returns-clause-value
returns-clause-value g c honest =
    let s = c.args.side in
    let disks = g.D.LogDisk.disk c.self.inside.inner in
    let read : c.deref.result.now ≡ contents (disk_at c.args.self.now s) =
    c.deref.ensures.value ∙ (search rules) ∙ (c.in-Ok.ensures.parsed honest).text_is
    ∙ sym (decoded_contents s (disks s))
    ∙ ap contents (sym (disk_over disks c.self.inside.sums c.self.inside.failures s))
    ∙ ap (λ (v : SummedValue). contents (disk_at v s)) c.self.view_is in
    subst (λ (l : List ℕ). c.copy_from_slice.new.self
    ≡ slice_range l c.args.offset (c.args.offset + length c.args.buffer.now)) read (search rules)

pub returns-clause-within : goal.returns-clause-within
returns-clause-within g c honest =
    let s = c.args.side in
    let disks = g.D.LogDisk.disk c.self.inside.inner in
    let read : c.deref.result.now ≡ contents (disk_at c.args.self.now s) =
    c.deref.ensures.value ∙ (search rules) ∙ (c.in-Ok.ensures.parsed honest).text_is
    ∙ sym (decoded_contents s (disks s))
    ∙ ap contents (sym (disk_over disks c.self.inside.sums c.self.inside.failures s))
    ∙ ap (λ (v : SummedValue). contents (disk_at v s)) c.self.view_is in
    subst (λ (l : List ℕ). c.args.offset + length c.args.buffer.now ≤ length l) read (search rules)
