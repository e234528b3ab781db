use Rattle.std.proofs.Common.{rules, arith}
use Rattle.lk_bundle.proofs.PieceLaws.{piece_found, length-taken}
use Rattle.lk_bundle.proofs.pieces.read_piece.Goals as goal

pub returns-clause-length : goal.returns-clause-length
returns-clause-length c =
    let parts = piece_found c.args.bytes.now c.split_at.result.0.now c.split_at.result.1.now
    (λ i. omega (arith, c.type_inv.bytes i)) (search rules) in
    length-taken _ _ _ parts.1
