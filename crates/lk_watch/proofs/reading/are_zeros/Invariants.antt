use Rattle.std.proofs.Common.{◌≡◌, drop}
use Rattle.lk_watch.specs.Reading.{are_zeros}
use Rattle.lk_watch.proofs.reading.are_zeros.Given as goal

-- what is left is zeros exactly where all is
abbrev pub invariant-loop-byte : goal.invariant-loop-byte
invariant-loop-byte l = are_zeros (drop l.byte-index l.bytes) ≡ are_zeros l.bytes
