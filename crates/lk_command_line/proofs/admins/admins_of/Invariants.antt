use Rattle.std.proofs.Common.{length}
use Rattle.lk_command_line.proofs.AdminWords.{ReadSoFar}
use Rattle.lk_command_line.proofs.admins.admins_of.Given as goal

abbrev pub invariant-words : goal.invariant-words
invariant-words l = ReadSoFar l.words l.admins l.rest

abbrev pub decreases-words : goal.decreases-words
decreases-words l = length l.rest
