use Rattle.std.proofs.Common.{length}
use Rattle.lk_script_lines.proofs.InputLaws.{ReadSoFar}
use Rattle.lk_script_lines.proofs.input_words.read_inputs.Given as goal

abbrev pub invariant-words : goal.invariant-words
invariant-words l = ReadSoFar l.words l.inputs.items l.rest

abbrev pub decreases-words : goal.decreases-words
decreases-words l = length l.rest
