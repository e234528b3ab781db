-- Scripts of either mode: what each line prints.
use Rattle.std.specs.Prelude.{◌≡◌, ◌≢◌, ◌⊎◌, ℕ, ◌+◌, length, List, [], ◌∷◌, ◌++◌, Some}
use Rattle.lk_types.specs.declared.member.Member.{Member}
use Rattle.lk_members.specs.Effects.{Command}
use Rattle.lk_members.specs.Rosters.{Genesis}
use Rattle.lk_replica.specs.Behaviours.{Behaviour}
use Rattle.lk_sim.specs.Runs.{AreExecuted}
use Rattle.lk_sim.specs.WorldStates.{WorldState}
use Rattle.lk_sim_nodes.specs.declared.refused.Refused.{Refused}
use Rattle.lk_script_lines.specs.HexLines.{SpellsBytes}
use Rattle.lk_script.specs.TableMode.{Prints, IsTableLine}
use Rattle.lk_script_lines.specs.GenesisLines.{IsGenesisLine}
use Rattle.lk_script_lines.specs.WorldLines.{SpellsInstruction}
use Rattle.lk_script.specs.Worlds.{new_world, events_of, Follows, refused_line, done_line}
use Rattle.lk_script_lines.specs.declared.instruction.Instruction.{Instruction}

-- what a script has set up: nothing yet, a lock table with the list of the requests that took effect so far, or a
-- world, in which this many events were done
pub data Script (R : Type 0) : Type 0 where
  begun : Script R
  table : (cluster : ℕ) (L : List Command) → Script R
  world : (world_state : WorldState R) (done : ℕ) → Script R

-- the line sets up a table, or a world
abbrev pub IsFirstLine : List ℕ → Type 0
IsFirstLine line = ((cluster : ℕ) × IsTableLine line cluster)
    ⊎ ((cluster : ℕ) × (alpha : ℕ) × (members : List Member) × IsGenesisLine line cluster alpha members)

-- the line is valid there: after the first line a datagram in hex, or an instruction
abbrev pub IsUnderstood : {R : Type 0} → Script R → List ℕ → Type 0
IsUnderstood begun line = IsFirstLine line
IsUnderstood (table cluster L) line = (bytes : List ℕ) × SpellsBytes line bytes
IsUnderstood (world world_state done) line = (o : Instruction) × SpellsInstruction line o

-- a valid line, what it prints and what is set up after it, if the replicas of a world behave like this
pub data RunsLine {R : Type 0} (b : Behaviour R) : Script R → List ℕ → List ℕ → Script R → Type 0 where
  -- the first line sets up a table
  begins : (line : List ℕ) (cluster : ℕ) → IsTableLine line cluster → RunsLine b begun line [] (table cluster [])
  -- or a world, in which nothing has happened
  opens : (line : List ℕ) (genesis : Genesis) → IsGenesisLine line genesis.cluster genesis.alpha genesis.members
      → RunsLine b begun line [] (world (new_world genesis) 0)
  -- a later line is a datagram in hex
  prints : (cluster : ℕ) (L : List Command) (line bytes text : List ℕ) (after : List Command) → SpellsBytes line bytes
      → Prints cluster L bytes text after
      → RunsLine b (table cluster L) line (text ++ 10 ∷ []) (table cluster after)
  -- or an event of the world, or several, which happen in order; nothing is said here of what they print
  happens : (old new : WorldState R) (done : ℕ) (line out : List ℕ) (o : Instruction) → SpellsInstruction line o
      → AreExecuted b (events_of o) old new
      → RunsLine b (world old done) line out (world new (done + length (events_of o)))

-- a valid line, of which an event is rejected: those before it happen in order, the rejection leaves this world, and
-- what the line prints ends with it
pub record IsCutShort {R : Type 0} (b : Behaviour R) (old : WorldState R) (line out : List ℕ) (r : Refused)
    : Type 0 where
  pub instruction : Instruction
  pub spelled : SpellsInstruction line instruction
  pub done : ℕ
  pub new : WorldState R
  pub follows : Follows b old (events_of instruction) done (Some r) new
  pub printed : List ℕ
  pub out_is : out ≡ printed ++ refused_line r

-- only a world rejects
abbrev pub Refuses : {R : Type 0} → Behaviour R → Script R → List ℕ → List ℕ → Refused → Type 0
Refuses b begun line out r = ⊥
Refuses b (table cluster L) line out r = ⊥
Refuses b (world world_state done) line out r = IsCutShort b world_state line out r

-- how lines end: all are valid, and this is set up; or this line is not; or an event was rejected
pub data Stop (R : Type 0) : Type 0 where
  at_end : Script R → Stop R
  at_line : (number : ℕ) → Stop R
  at_refusal : Refused → Stop R

-- what the lines print, the first of them with that number, and how they end
pub data Runs {R : Type 0} (b : Behaviour R) : Script R → ℕ → List (List ℕ) → List ℕ → Stop R → Type 0 where
  -- no line is left
  ends : (s : Script R) (n : ℕ) → Runs b s n [] [] (at_end s)
  -- an empty line
  skips : (s : Script R) (n : ℕ) (lines : List (List ℕ)) (text : List ℕ) (stop : Stop R)
      → Runs b s (n + 1) lines text stop → Runs b s n ([] ∷ lines) text stop
  -- a valid line
  runs_line : (s after : Script R) (n : ℕ) (line out : List ℕ) (lines : List (List ℕ)) (text : List ℕ) (stop : Stop R)
      → line ≢ [] → RunsLine b s line out after
      → Runs b after (n + 1) lines text stop → Runs b s n (line ∷ lines) (out ++ text) stop
  -- an invalid line: nothing after it is read
  stops : (s : Script R) (n : ℕ) (line : List ℕ) (lines : List (List ℕ)) → line ≢ [] → (IsUnderstood s line → ⊥)
      → Runs b s n (line ∷ lines) [] (at_line n)
  -- a rejection: nothing after it is read
  refuses : (s : Script R) (n : ℕ) (line out : List ℕ) (r : Refused) (lines : List (List ℕ)) → line ≢ []
      → Refuses b s line out r → Runs b s n (line ∷ lines) out (at_refusal r)

-- the last line of the output if no line is left
abbrev pub last_line : {R : Type 0} → Script R → List ℕ
last_line begun = []
last_line (table cluster L) = []
last_line (world world_state done) = done_line done

-- the first line that is not empty begins a world
pub data OpensWorld : List (List ℕ) → Type 0 where
  here : (line : List ℕ) (cluster alpha : ℕ) (members : List Member) (lines : List (List ℕ))
      → IsGenesisLine line cluster alpha members → OpensWorld (line ∷ lines)
  later : (lines : List (List ℕ)) → OpensWorld lines → OpensWorld ([] ∷ lines)
