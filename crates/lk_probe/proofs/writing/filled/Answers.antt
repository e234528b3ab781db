use Rattle.std.proofs.Common.{ℕ, length, arith}
use Rattle.std.proofs.lemmas.List.{drop-replicate}
use Rattle.lk_probe.specs.Grammar.{padded}
use Rattle.lk_probe.proofs.writing.filled.Goals as goal

pub returns : goal.returns
unfolding padded
returns c =
    let copied = c.copy_from_slice.ensures.after in
    let zeros = drop-replicate {X = ℕ} (length c.as_slice-written.result.now) 174 0 in
    rw (copied, zeros) (grind arith)
