-- World mode: what its lines do.
use Rattle.std.specs.Prelude.{ℕ, List, [], ◌∷◌, ◌++◌, replicate, Option, None, codes}
use Rattle.std.specs.Fmt.{decimal}
use Rattle.lk_members.specs.Rosters.{Genesis}
use Rattle.lk_replica.specs.Behaviours.{Behaviour}
use Rattle.lk_sim_nodes.specs.Refusals.{refusal_number}
use Rattle.lk_sim.specs.Runs.{Runs}
use Rattle.lk_sim.specs.WorldStates.{WorldState}
use Rattle.lk_sim.specs.declared.event.Event.{Event}
use Rattle.lk_sim.specs.declared.event.Event.TheVariants.{Tick}
use Rattle.lk_sim_nodes.specs.declared.refused.Refused.{Refused}
use Rattle.lk_sim_nodes.specs.declared.refused.Refused.TheVariants.{NoSuchNode, NotUp, AlreadyUp, NoSuchDatagram}
use Rattle.lk_sim_nodes.specs.declared.refused.Refused.TheVariants.{Forged, WorldFull, WorldMemory}
use Rattle.lk_script_lines.specs.declared.instruction.Instruction.{Instruction}
use Rattle.lk_script_lines.specs.declared.instruction.Instruction.TheVariants.{Ticks, Once}

-- a world in which nothing has happened
abbrev pub new_world : {R : Type 0} → Genesis → WorldState R
new_world genesis = record { genesis = genesis; sim_nodes = []; sent = []; trace = []; ended = None }

-- the events of an instruction, one after another
abbrev pub events_of : Instruction → List Event
events_of (Ticks n times) = replicate times (Tick n)
events_of (Once e) = e ∷ []

-- this many of the events happened in order: all of them, or the next one was rejected for this reason
abbrev pub Follows : {R : Type 0} → Behaviour R → WorldState R → List Event → ℕ → Option Refused → WorldState R → Type 0
Follows b old events done refused new = Runs b old events (record { done = done; refused = refused }) new

-- the name of a rejection
abbrev pub refusal_name : Refused → List ℕ
refusal_name NoSuchNode = codes "NoSuchNode"
refusal_name NotUp = codes "NotUp"
refusal_name AlreadyUp = codes "AlreadyUp"
refusal_name NoSuchDatagram = codes "NoSuchDatagram"
refusal_name Forged = codes "Forged"
refusal_name WorldFull = codes "WorldFull"
refusal_name WorldMemory = codes "WorldMemory"

-- the last line of a run that a rejection ended
abbrev pub refused_line : Refused → List ℕ
refused_line r = codes "refused " ++ decimal (refusal_number r) ++ 32 ∷ refusal_name r ++ 10 ∷ []

-- the last line of a run in which nothing was rejected
abbrev pub done_line : ℕ → List ℕ
done_line events = codes "done " ++ decimal events ++ 10 ∷ []
