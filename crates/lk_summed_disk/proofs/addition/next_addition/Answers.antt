use Rattle.std.proofs.Common.{◌∙◌, ◌++◌, List, ℕ, ap}
use Rattle.lk_summed_disk.specs.Frames.{frame}
use Rattle.lk_summed_disk.proofs.PlaceLaws.{adds_next_as}
use Rattle.lk_summed_disk.proofs.addition.next_addition.Goals as goal

pub returns : goal.returns
returns c side =
    adds_next_as c.args.chain.now c.args.piece.now c.add_frame.new.bytes.items c.in_ok-after.after
    c.in_ok-after.ensures.fits
    (c.in_ok-after.ensures.bytes
    ∙ ap (λ (l : List ℕ). l ++ frame c.args.chain.now c.args.piece.now) c.new-bytes.ensures.items)
    c.in_ok-after.ensures.chain
