use Rattle.lk_auth.proofs.Bits.{IsZeroIfSame}
use Rattle.lk_auth.proofs.frame.is_same.Given as goal

abbrev pub invariant-bytes : goal.invariant-bytes
invariant-bytes l = IsZeroIfSame l.difference l.i l.left l.right
