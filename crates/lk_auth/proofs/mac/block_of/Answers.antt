use Rattle.std.proofs.Common.{ℕ, length, arith}
use Rattle.std.proofs.lemmas.List.{drop-replicate}
use Rattle.lk_auth.specs.Hmac.{key_block}
use Rattle.lk_auth.proofs.mac.block_of.Goals as goal

pub returns-then-key-le-BLOCK : goal.returns-then-key-le-BLOCK
unfolding key_block
returns-then-key-le-BLOCK c =
    let copied = c.copy_from_slice.ensures.after in
    let zeros = drop-replicate {X = ℕ} (length c.args.key.now) 64 0 in
    rw (copied, zeros) (grind arith)
