use Rattle.std.proofs.Common.{length}
use Rattle.lk_word_parsers.proofs.MemberWords.{ReadSoFar}
use Rattle.lk_word_parsers.proofs.member.read_members.Given as goal

abbrev pub invariant-words : goal.invariant-words
invariant-words l = ReadSoFar l.sign l.words l.members.items l.rest

abbrev pub decreases-words : goal.decreases-words
decreases-words l = length l.rest
