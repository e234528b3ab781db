-- The lines of world mode after its first: how each is spelled, and which events it asks for.
use Rattle.std.specs.Prelude.{◌≡◌, ◌≢◌, ◌≤◌, ◌⊎◌, ℕ, List, [], ◌∷◌, ◌++◌, Ok, codes}
use Rattle.std.specs.Fmt.{decimal}
use Rattle.hex.specs.Hex.{decode_of}
use Rattle.lk_types.specs.Limits.{max_count, max_node, max_client}
use Rattle.lk_members.specs.Effects.{RequestValue}
use Rattle.lk_node_interface.specs.declared.nudge_reason.NudgeReason.{NudgeReason}
use Rattle.lk_node_interface.specs.declared.nudge_reason.NudgeReason.TheVariants.{Period, TicksWithheld, Fed}
use Rattle.lk_word_parsers.specs.Operations.{SpellsOp}
use Rattle.lk_sim.specs.declared.event.Event.{Event}
use Rattle.lk_sim.specs.declared.event.Event.TheVariants as event
use Rattle.lk_sim.specs.declared.event.GroupInput.{GroupInput}
use Rattle.lk_sim.specs.declared.event.GroupInput.TheVariants as input
use Rattle.lk_script_lines.specs.declared.event_verb.EventVerb.{EventVerb}
use Rattle.lk_script_lines.specs.declared.event_verb.EventVerb.TheVariants as verb
use Rattle.lk_script_lines.specs.declared.instruction.Instruction.{Instruction}
use Rattle.lk_script_lines.specs.declared.instruction.Instruction.TheVariants.{Ticks, Once}

-- the word spells a number from `least` to `most`
abbrev pub IsWord : ℕ → ℕ → ℕ → List ℕ → Type 0
IsWord least most n word = (least ≤ n) × (n ≤ most) × (word ≡ decimal n)

-- the words begin with such a number, followed by a space and these words
abbrev pub StartsWithNumber : ℕ → ℕ → ℕ → List ℕ → List ℕ → Type 0
StartsWithNumber least most n rest words = (least ≤ n) × (n ≤ most) × (words ≡ decimal n ++ 32 ∷ rest)

-- a node, alone or with words after it
abbrev pub IsNodeWord : ℕ → List ℕ → Type 0
IsNodeWord = IsWord 1 max_node

abbrev pub NodeLeads : ℕ → List ℕ → List ℕ → Type 0
NodeLeads = StartsWithNumber 1 max_node

-- ---- what the words after each verb ask for

-- `N`
abbrev pub AsksToStart : List ℕ → Instruction → Type 0
AsksToStart words o = (n : ℕ) × IsNodeWord n words × (o ≡ Once (event.Start n))

abbrev pub AsksToRestart : List ℕ → Instruction → Type 0
AsksToRestart words o = (n : ℕ) × IsNodeWord n words × (o ≡ Once (event.Restart n))

-- `N`, or `N TIMES`
abbrev pub AsksForTicks : List ℕ → Instruction → Type 0
AsksForTicks words o = ((n : ℕ) × IsNodeWord n words × (o ≡ Ticks n 1))
    ⊎ ((n : ℕ) × (times : ℕ) × (word : List ℕ) × NodeLeads n word words
    × IsWord 1 10000 times word × (o ≡ Ticks n times))

-- the word says the reason of a nudge: `withheld` or `fed`
abbrev pub SaysReason : NudgeReason → List ℕ → Type 0
SaysReason Period word = ⊥
SaysReason TicksWithheld word = word ≡ codes "withheld"
SaysReason Fed word = word ≡ codes "fed"

-- `N` alone, or with a word that says the reason
abbrev pub AsksToNudge : List ℕ → Instruction → Type 0
AsksToNudge words o = ((n : ℕ) × IsNodeWord n words × (o ≡ Once (event.Nudge n Period)))
    ⊎ ((n : ℕ) × (reason : NudgeReason) × (word : List ℕ) × NodeLeads n word words × SaysReason reason word
    × (o ≡ Once (event.Nudge n reason)))

-- `N`
abbrev pub AsksToCompact : List ℕ → Instruction → Type 0
AsksToCompact words o = (n : ℕ) × IsNodeWord n words × (o ≡ Once (event.Compact n))

-- `K`
abbrev pub AsksToDeliver : List ℕ → Instruction → Type 0
AsksToDeliver words o = (k : ℕ) × IsWord 1 max_count k words × (o ≡ Once (event.Deliver k))

-- `t`, `nudge`, `nudge withheld`, `nudge fed`, or `K`
abbrev pub SpellsInput : GroupInput → List ℕ → Type 0
SpellsInput input.Tick words = words ≡ codes "t"
SpellsInput (input.Nudge Period) words = words ≡ codes "nudge"
SpellsInput (input.Nudge TicksWithheld) words = words ≡ codes "nudge withheld"
SpellsInput (input.Nudge Fed) words = words ≡ codes "nudge fed"
SpellsInput (input.Deliver k) words = IsWord 1 max_count k words

-- the first of these words are an input of two words, and a space and the rest follow them
abbrev pub BeginsWithPair : List ℕ → List ℕ → List ℕ → Type 0
BeginsWithPair first rest words =
    ((first ≡ codes "nudge withheld") ⊎ (first ≡ codes "nudge fed")) × (words ≡ first ++ 32 ∷ rest)

-- inputs of a group in words, one or more, separated by spaces
pub data SpellsInputs : List ℕ → List GroupInput → Type 0 where
  one : (t : GroupInput) (words : List ℕ) → SpellsInput t words → SpellsInputs words (t ∷ [])
  more : (t : GroupInput) (words rest : List ℕ) (inputs : List GroupInput) → SpellsInput t words
      → SpellsInputs rest inputs
      → SpellsInputs (words ++ 32 ∷ rest) (t ∷ inputs)

-- whatever inputs the words spell, these words of them are the first, and what follows the space after it is the rest
pub record FirstInput (first rest words : List ℕ) : Type 0 where
  pub parts : words ≡ first ++ 32 ∷ rest
  pub are : (inputs : List GroupInput) → SpellsInputs words inputs
      → (t : GroupInput) × (others : List GroupInput) × (inputs ≡ t ∷ others) × SpellsInput t first
      × SpellsInputs rest others

-- whatever inputs the words spell, it is one
abbrev pub OneInput : List ℕ → Type 0
OneInput words =
    (inputs : List GroupInput) → SpellsInputs words inputs
    → (t : GroupInput) × (inputs ≡ t ∷ []) × SpellsInput t words

-- the node takes these together
abbrev pub Groups : ℕ → List GroupInput → Event → Type 0
Groups n inputs (event.Group m taken) = (m ≡ n) × (taken.items ≡ inputs)
Groups n inputs e = ⊥

-- `N WORD ..`
abbrev pub AsksForGroup : List ℕ → Instruction → Type 0
AsksForGroup words o = (n : ℕ) × (rest : List ℕ) × (inputs : List GroupInput) × (e : Event) × NodeLeads n rest words
    × SpellsInputs rest inputs × Groups n inputs e × (o ≡ Once e)

-- `C NUMBER OP`
abbrev pub SpellsRequest : List ℕ → RequestValue → Type 0
SpellsRequest words r = (rest : List ℕ) × (text : List ℕ) × StartsWithNumber 1 max_client r.client rest words
    × StartsWithNumber 1 max_count r.number text rest × SpellsOp text r.op

-- `N C NUMBER OP`
abbrev pub AsksOfClient : List ℕ → Instruction → Type 0
AsksOfClient words o = (n : ℕ) × (r : RequestValue) × (rest : List ℕ) × NodeLeads n rest words × SpellsRequest rest r
    × (o ≡ Once (event.Client n r))

-- the node takes these bytes
abbrev pub Injects : ℕ → List ℕ → Event → Type 0
Injects n bytes (event.Inject m handed) = (m ≡ n) × (handed.items ≡ bytes)
Injects n bytes e = ⊥

-- `N HEX`
abbrev pub AsksToInject : List ℕ → Instruction → Type 0
AsksToInject words o = (n : ℕ) × (digits : List ℕ) × (bytes : List ℕ) × (e : Event) × NodeLeads n digits words
    × (decode_of digits ≡ Ok bytes) × (bytes ≢ [])
    × Injects n bytes e × (o ≡ Once e)

-- `N X Y`
abbrev pub AsksToStop : List ℕ → Instruction → Type 0
AsksToStop words o = (n : ℕ) × (x : ℕ) × (y : ℕ) × (more : List ℕ) × (word : List ℕ)
    × NodeLeads n more words × StartsWithNumber 0 max_count x word more × IsWord 0 max_count y word
    × (o ≡ Once (event.Stop n x y))

-- `N COUNT`
abbrev pub AsksToFail : List ℕ → Instruction → Type 0
AsksToFail words o = (n : ℕ) × (count : ℕ) × (word : List ℕ) × NodeLeads n word words × IsWord 1 max_count count word
    × (o ≡ Once (event.FailAt n count))

-- `N COUNT BYTES`
abbrev pub AsksToArm : List ℕ → Instruction → Type 0
AsksToArm words o = (n : ℕ) × (count : ℕ) × (bytes : ℕ) × (more : List ℕ) × (word : List ℕ)
    × NodeLeads n more words × StartsWithNumber 1 max_count count word more × IsWord 0 max_count bytes word
    × (o ≡ Once (event.Arm n count bytes))

-- ---- a line

abbrev pub word_of : EventVerb → List ℕ
word_of verb.Start = codes "start"
word_of verb.Restart = codes "restart"
word_of verb.Tick = codes "tick"
word_of verb.Nudge = codes "nudge"
word_of verb.Compact = codes "compact"
word_of verb.Deliver = codes "deliver"
word_of verb.Group = codes "group"
word_of verb.Client = codes "client"
word_of verb.Inject = codes "inject"
word_of verb.Stop = codes "stop"
word_of verb.Fail = codes "fail"
word_of verb.Arm = codes "arm"

abbrev pub SpellsAfterVerb : EventVerb → List ℕ → Instruction → Type 0
SpellsAfterVerb verb.Start = AsksToStart
SpellsAfterVerb verb.Restart = AsksToRestart
SpellsAfterVerb verb.Tick = AsksForTicks
SpellsAfterVerb verb.Nudge = AsksToNudge
SpellsAfterVerb verb.Compact = AsksToCompact
SpellsAfterVerb verb.Deliver = AsksToDeliver
SpellsAfterVerb verb.Group = AsksForGroup
SpellsAfterVerb verb.Client = AsksOfClient
SpellsAfterVerb verb.Inject = AsksToInject
SpellsAfterVerb verb.Stop = AsksToStop
SpellsAfterVerb verb.Fail = AsksToFail
SpellsAfterVerb verb.Arm = AsksToArm

-- a verb, a space, and words of that verb
abbrev pub SpellsInstruction : List ℕ → Instruction → Type 0
SpellsInstruction line o = (v : EventVerb) × (words : List ℕ) × (line ≡ word_of v ++ 32 ∷ words)
    × SpellsAfterVerb v words o
