use Rattle.std.proofs.Common.{length}
use Rattle.lk_auth.specs.Seals.{key_list}
use Rattle.lk_auth.proofs.KeyFileLaws.{ReadSoFar}
use Rattle.lk_auth.proofs.keys.Keys.read.Given as goal

abbrev pub invariant-lines : goal.invariant-lines
invariant-lines l = ReadSoFar l.text (key_list l.keys) l.rest

abbrev pub decreases-lines : goal.decreases-lines
decreases-lines l = length l.rest
