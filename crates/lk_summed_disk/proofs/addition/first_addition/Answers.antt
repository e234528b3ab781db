use Rattle.std.proofs.Common.{◌∙◌, List, ℕ, ap, rules}
use Rattle.lk_summed_disk.specs.Frames.{frame, seed, digest}
use Rattle.lk_summed_disk.proofs.PlaceLaws.{adds_first_as, first_bytes}
use Rattle.lk_summed_disk.proofs.addition.first_addition.Goals as goal

pub returns-clause-begins : goal.returns-clause-begins
returns-clause-begins c = (
  frame (seed c.args.side) c.args.piece.now,
  first_bytes c.args.side c.args.piece.now c.in_ok-bytes.bytes.items c.add_frame.new.bytes.items c.seed.result
      c.in_ok-after.ensures.bytes c.seed.ensures (search rules),
)

pub returns-clause-adds : goal.returns-clause-adds
returns-clause-adds c =
    adds_first_as c.args.side c.args.piece.now c.add_frame.new.bytes.items c.in_ok-after.after
    c.in_ok-after.ensures.fits
    (first_bytes c.args.side c.args.piece.now c.in_ok-bytes.bytes.items c.add_frame.new.bytes.items c.seed.result
    c.in_ok-after.ensures.bytes c.seed.ensures (search rules))
    (c.in_ok-after.ensures.chain ∙ ap (λ (chain : List ℕ). digest chain c.args.piece.now) c.seed.ensures)
