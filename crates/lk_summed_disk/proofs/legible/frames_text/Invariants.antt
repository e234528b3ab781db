-- The bytes so far are whole frames of the text.
use Rattle.std.proofs.Common.{length}
use Rattle.lk_summed_disk.proofs.ParseLaws.{At}
use Rattle.lk_summed_disk.proofs.legible.frames_text.Given as goal

abbrev pub invariant-frames : goal.invariant-frames
invariant-frames l = At l.fn.side l.bytes l.text.items l.chain l.rest

abbrev pub decreases-frames : goal.decreases-frames
decreases-frames l = length l.rest
