use Rattle.std.proofs.Common.{◌≡◌, length, take}
use Rattle.lk_auth.specs.Hmac.{with_pad}
use Rattle.lk_auth.proofs.mac.padded.Given as goal

abbrev pub invariant-bytes : goal.invariant-bytes
invariant-bytes l = (length l.mixed ≡ 64) × (take l.i l.mixed ≡ with_pad l.pad (take l.i l.block))
