use Rattle.std.proofs.Common.{ℕ, List, subst}
use Rattle.lk_disk.specs.Disk.{AppendsSome}
use Rattle.lk_disk.specs.Files.{IsWhole, left_of}
use Rattle.lk_disk.proofs.Buffering.{handed_no_more}
use Rattle.lk_disk.proofs.buffered_file.BufferedFile.hand_over.Goals as goal

pub invariant_of-self : goal.invariant_of-self
invariant_of-self g c honest =
    let b = c.self.inside in
    let old = g.F.AppendFile.file b.below in
    let new = g.F.AppendFile.file c.append.new.self in
    let err : IsWhole old → AppendsSome b.pending.items (left_of old) (left_of new) =
    λ is. subst (λ (l : List ℕ). AppendsSome l (left_of old) (left_of new)) c.deref.ensures.value
    (c.in_err-append.ensures.err honest is) in (
      λ ended. absurd (cc ended),
      handed_no_more b.is_short b.size b.pending.items old new ((c.self.invariant honest).0 c.if-self.false) err,
    )
