-- How an event is printed as a line of world mode.
use Rattle.std.specs.Prelude.{ℕ, List, [], ◌∷◌, ◌++◌, codes}
use Rattle.std.specs.Fmt.{decimal}
use Rattle.hex.specs.Hex.{encode_lower}
use Rattle.lk_types.specs.declared.command.Op.{Op}
use Rattle.lk_types.specs.declared.command.Op.TheVariants.{Table, Join, Leave, Raise}
use Rattle.lk_node_interface.specs.declared.nudge_reason.NudgeReason.{NudgeReason}
use Rattle.lk_node_interface.specs.declared.nudge_reason.NudgeReason.TheVariants.{Period, TicksWithheld, Fed}
use Rattle.lk_sim.specs.declared.event.Event.{Event}
use Rattle.lk_sim.specs.declared.event.Event.TheVariants as event
use Rattle.lk_sim.specs.declared.event.GroupInput.{GroupInput}
use Rattle.lk_sim.specs.declared.event.GroupInput.TheVariants as input

-- numbers, each after a space
abbrev pub then_numbers : List ℕ → List ℕ
then_numbers [] = []
then_numbers (n ∷ more) = 32 ∷ (decimal n ++ then_numbers more)

-- an operation in words; a request's body in hex
abbrev pub op_words : Op → List ℕ
op_words (Table body) = codes "raw " ++ encode_lower body
op_words (Join node port) = codes "join" ++ then_numbers (node ∷ port ∷ [])
op_words (Leave node) = codes "leave" ++ then_numbers (node ∷ [])
op_words Raise = codes "raise" ++ then_numbers (2 ∷ [])

-- the word that says the reason of a nudge, after a space; nothing after a period
abbrev pub then_reason : NudgeReason → List ℕ
then_reason Period = []
then_reason TicksWithheld = codes " withheld"
then_reason Fed = codes " fed"

-- the inputs of a group, each after a space
abbrev pub then_inputs : List GroupInput → List ℕ
then_inputs [] = []
then_inputs (input.Tick ∷ inputs) = codes " t" ++ then_inputs inputs
then_inputs (input.Nudge reason ∷ inputs) = (codes " nudge" ++ then_reason reason) ++ then_inputs inputs
then_inputs (input.Deliver k ∷ inputs) = then_numbers (k ∷ []) ++ then_inputs inputs

-- the line of an event
abbrev pub line_of : Event → List ℕ
line_of (event.Start n) = codes "start" ++ then_numbers (n ∷ [])
line_of (event.Restart n) = codes "restart" ++ then_numbers (n ∷ [])
line_of (event.Tick n) = codes "tick" ++ then_numbers (n ∷ [])
line_of (event.Nudge n reason) = (codes "nudge" ++ then_numbers (n ∷ [])) ++ then_reason reason
line_of (event.Compact n) = codes "compact" ++ then_numbers (n ∷ [])
line_of (event.Client n r) = (codes "client" ++ then_numbers (n ∷ r.client ∷ r.number ∷ [])) ++ 32 ∷ op_words r.op
line_of (event.Deliver k) = codes "deliver" ++ then_numbers (k ∷ [])
line_of (event.Group n inputs) = (codes "group" ++ then_numbers (n ∷ [])) ++ then_inputs inputs.items
line_of (event.Inject n bytes) = (codes "inject" ++ then_numbers (n ∷ [])) ++ 32 ∷ encode_lower bytes.items
line_of (event.Stop n x y) = codes "stop" ++ then_numbers (n ∷ x ∷ y ∷ [])
line_of (event.FailAt n count) = codes "fail" ++ then_numbers (n ∷ count ∷ [])
line_of (event.Arm n count bytes) = codes "arm" ++ then_numbers (n ∷ count ∷ bytes ∷ [])

-- the lines of events, one after another
abbrev pub lines_for : List Event → List ℕ
lines_for [] = []
lines_for (e ∷ events) = line_of e ++ 10 ∷ lines_for events
