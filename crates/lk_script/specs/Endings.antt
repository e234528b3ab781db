-- How the run of a script ends: what it has printed, and what the reader has left.
use Rattle.std.specs.Prelude.{◌≡◌, ℕ, List, ◌++◌, Option, ⊤}
use Rattle.lk_replica.specs.Behaviours.{Behaviour}
use Rattle.lk_script_lines.specs.Lines.{lines_of, ReadsWithinLine}
use Rattle.lk_script.specs.Scripts.{Script, begun, Runs, at_end, at_line, at_refusal, last_line}
use Rattle.lk_sim_nodes.specs.declared.refused.Refused.{Refused}
use Rattle.lk_script.specs.TableRuns.{Fits}
use Rattle.lk_script_lines.specs.declared.fault.ScriptFault.{ScriptFault}
use Rattle.lk_script_lines.specs.declared.fault.ScriptFault.TheVariants.{Read, Write, ScriptMemory, BadLine, Ended}
use Rattle.lk_script.specs.declared.mode.Mode.{Mode}

-- the script's lines print the text, up to the last of them and the closing line
pub record PrintsAll {R : Type 0} (b : Behaviour R) (script text : List ℕ) : Type 0 where
  pub state : Script R
  pub printed : List ℕ
  pub runs : Runs b begun 1 (lines_of script) printed (at_end state)
  pub text_is : text ≡ printed ++ last_line state

-- and the program then keeps what they have set up
abbrev pub SetsUp : {R : Type 0} → Behaviour R → List ℕ → List ℕ → Mode R → Type 0
SetsUp b script text mode = (all : PrintsAll b script text) × Fits all.state mode

-- the lines before the line of that number print the text, and that line is the first invalid one
abbrev pub EndsAtLine : {R : Type 0} → Behaviour R → ℕ → List ℕ → List ℕ → Type 0
EndsAtLine b number script text = Runs b begun 1 (lines_of script) text (at_line number)

-- the lines before the one with a rejected event print the text, with what that line printed and the rejection
abbrev pub EndsRefused : {R : Type 0} → Behaviour R → Refused → List ℕ → List ℕ → Type 0
EndsRefused b r script text = Runs b begun 1 (lines_of script) text (at_refusal r)

-- the run broke off at a line: the lines before it print the text, and of what follows these no more than this line
-- was read
pub record BreaksOff {R : Type 0} (b : Behaviour R) (script text : List ℕ) (left : Option (List ℕ)) : Type 0 where
  pub front : List (List ℕ)
  pub behind : List ℕ
  pub lines : lines_of script ≡ front ++ lines_of behind
  pub state : Script R
  pub printed : Runs b begun 1 front text (at_end state)
  pub within_line : ReadsWithinLine behind left

-- a script that ends with the fault has printed the text, and the reader has this left; nothing is said of a failed
-- write
abbrev pub EndsBy : {R : Type 0} → Behaviour R → ScriptFault → List ℕ → List ℕ → Option (List ℕ) → Type 0
EndsBy b Read script text left = BreaksOff b script text left
EndsBy b Write script text left = ⊤
EndsBy b ScriptMemory script text left = BreaksOff b script text left
EndsBy b (BadLine number) script text left = EndsAtLine b number script text
EndsBy b (Ended r) script text left = EndsRefused b r script text
