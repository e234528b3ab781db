use Rattle.std.proofs.Common.{◌≡◌, ◌∙◌, false, [], ap}
use Rattle.lk_disk.specs.Buffers.{BufferedValue}
use Rattle.lk_disk.proofs.Buffering.{no_more, synced_as}
use Rattle.lk_disk.proofs.buffered_file.BufferedFile.sync_below.Goals as goal

pub invariant_of-self-2 : goal.invariant_of-self-2
invariant_of-self-2 g c honest =
    let b = c.self.inside in
    let f = g.F.AppendFile.file b.below in
    let new = g.F.AppendFile.file c.sync.new.self in
    let goes_on : b.failed ≡ false = ap (λ (v : BufferedValue). v.failed) c.self.view_is
    ∙ c.in_ok-hand_over.ensures.ready in
    let none : b.pending.items ≡ [] = ap (λ (v : BufferedValue). v.pending) c.self.view_is
    ∙ c.in_ok-hand_over.ensures.empty in
    let ready = synced_as b.is_short b.size b.pending.items f new none ((c.self.invariant honest).0 goes_on)
    (c.in_ok-sync.ensures.ok honest) (c.in_ok-sync.ensures.short honest) in
    (λ going. ready, no_more false b.size b.pending.items new ready)
