-- The steps of a group in a world: what a node takes together, and what they add to the trace.
use Rattle.std.specs.Prelude.{◌≡◌, ◌++◌, List, [], ◌∷◌, Option, Some, None, Contains}
use Rattle.lk_node_interface.specs.declared.input.Input.{Input}
use Rattle.lk_node_interface.specs.declared.input.Input.TheVariants.{Tick, Nudge, Datagram as Heard}
use Rattle.lk_node_interface.specs.declared.note.Note.{Note}
use Rattle.lk_node.specs.Histories.{Datagram}
use Rattle.lk_replica.specs.Together.{Said}
use Rattle.lk_sim.specs.Refusals.{datagram_at}
use Rattle.lk_sim_nodes.specs.Told.{NotesReplies}
use Rattle.lk_sim.specs.declared.copied_input.CopiedInput.{CopiedInput}
use Rattle.lk_sim.specs.declared.copied_input.CopiedInput.TheVariants as copied_input
use Rattle.lk_sim.specs.declared.event.GroupInput.{GroupInput}
use Rattle.lk_sim.specs.declared.event.GroupInput.TheVariants as group_input

-- ---- what a node takes

-- the datagram's bytes, or a tick where there is none
abbrev pub bringing : Option Datagram → Input
bringing None = Tick
bringing (Some d) = Heard d.bytes

-- what an input of a group gives: a tick, a nudge, or the datagram's bytes
abbrev pub given_by : List Datagram → GroupInput → Input
given_by sent group_input.Tick = Tick
given_by sent (group_input.Nudge reason) = Nudge reason
given_by sent (group_input.Deliver k) = bringing (datagram_at sent k)

-- the input of which this is a copy
abbrev pub input_of : CopiedInput → Input
input_of copied_input.Tick = Tick
input_of (copied_input.Nudge reason) = Nudge reason
input_of (copied_input.Datagram bytes) = Heard bytes.items

-- a tick, a nudge, or a datagram that was sent
abbrev pub WasSentTo : List Datagram → Input → Type 0
WasSentTo sent Tick = Unit {0}
WasSentTo sent (Nudge reason) = Unit {0}
WasSentTo sent (Heard bytes) = (d : Datagram) × Contains sent d × (bytes ≡ d.bytes)

-- each of these inputs is a tick, a nudge, or a datagram that was sent
abbrev pub WereSentTo : List Datagram → List Input → Type 0
WereSentTo sent [] = Unit {0}
WereSentTo sent (i ∷ is) = WasSentTo sent i × WereSentTo sent is

-- ---- what it adds to the trace

-- the notes of the steps, one step after another: what the node noted, and its answers and passes as they are sent
abbrev pub AreNotesOf : List Said → List Note → Type 0
AreNotesOf [] notes = notes ≡ []
AreNotesOf (x ∷ xs) notes =
    (told rest : List Note) × NotesReplies x.1 told × (notes ≡ (x.0 ++ told) ++ rest) × AreNotesOf xs rest
