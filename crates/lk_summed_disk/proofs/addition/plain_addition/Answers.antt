use Rattle.std.proofs.Common.{refl, rules}
use Rattle.lk_summed_disk.proofs.PlaceLaws.{adds_plain_as, adds_begun_as}
use Rattle.lk_summed_disk.proofs.addition.plain_addition.Goals as goal

pub returns-clause-plain : goal.returns-clause-plain
returns-clause-plain c side = adds_plain_as side c.args.piece.now c.in_ok-bytes.bytes.items _ (search rules) refl

pub returns-clause-begun : goal.returns-clause-begun
returns-clause-begun c side rest begins =
    adds_begun_as side c.args.piece.now rest c.in_ok-bytes.bytes.items _ begins (search rules) refl
