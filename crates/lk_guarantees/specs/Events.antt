-- Events: how a world begins, what each event does to it, when one is refused, and what a run of events does.
--
-- As in `Guarantee.antt`, all is restated independently, except for the contract of a replica, which is named.
use Rattle.std.specs.Prelude.{◌≡◌, ℕ, ◌+◌, ◌-◌, ◌<◌, ◌≤◌, ◌⊎◌, false, Option, Some, None, Result, Ok, Err, List, []}
use Rattle.std.specs.Prelude.{◌∷◌, ◌++◌, length, map, take, set, slice_get, Contains}
use Rattle.std.specs.List.{filter_map, flat_map}
use Rattle.lk_types.specs.declared.command.Request.{Request as Asking}
use Rattle.lk_types.specs.declared.genesis.Genesis.{Genesis}
use Rattle.lk_disk.specs.Disk.{Disk}
use Rattle.lk_memory_disk.specs.Memory.{Memory, empty}
use Rattle.lk_disk.specs.Meters.{stopping, trapped}
use Rattle.lk_disk.specs.declared.trap.Trap.{Trap}
use Rattle.lk_disk.specs.declared.trap.Trap.TheVariants.{Off, Arm}
use Rattle.lk_messages.specs.Grammar.{Spells}
use Rattle.lk_messages.specs.declared.message.Content.TheVariants as content
use Rattle.lk_messages.specs.declared.message.NodeMessage.{NodeMessage}
use Rattle.lk_agreement_laws.specs.Datagrams.{Datagram}
use Rattle.lk_agreement_laws.specs.declared.party.Party.TheVariants as party
use Rattle.lk_node_interface.specs.declared.input.Input.{Input}
use Rattle.lk_node_interface.specs.declared.input.Input.TheVariants.{Tick, Nudge, Datagram as Heard}
use Rattle.lk_node_interface.specs.declared.note.Note.{Note}
use Rattle.lk_node_interface.specs.declared.note.Note.TheVariants as note
use Rattle.lk_locks.specs.Meaning.{table_meaning}
use Rattle.lk_locks.specs.Packed.{IsTableText}
use Rattle.lk_node.specs.Leavings.{header_of}
use Rattle.lk_replica.specs.ReplicaValue.{ReplicaValue, device_of}
use Rattle.lk_replica.specs.Revived.{RevivesTo}
use Rattle.lk_replica.specs.Taking.{ComesTo}
use Rattle.lk_replica.specs.Together.{ComesToAll}
use Rattle.lk_sim.specs.WorldStates.{WorldState}
use Rattle.lk_sim_nodes.specs.declared.end.End.{End}
use Rattle.lk_sim_nodes.specs.declared.end.End.TheVariants.{Fault, Stopped}
use Rattle.lk_sim.specs.declared.end.RunEnd.{RunEnd}
use Rattle.lk_sim.specs.declared.event.Event.{Event}
use Rattle.lk_sim_nodes.specs.declared.refused.Refused.{Refused}
use Rattle.lk_sim.specs.declared.event.Event.TheVariants as event
use Rattle.lk_sim.specs.declared.event.GroupInput.{GroupInput}
use Rattle.lk_sim.specs.declared.event.GroupInput.TheVariants as group_input
use Rattle.lk_sim_nodes.specs.declared.refused.Refused.TheVariants.{NoSuchNode, NotUp, AlreadyUp, NoSuchDatagram}
use Rattle.lk_sim_nodes.specs.declared.refused.Refused.TheVariants.{Forged, WorldFull, WorldMemory}
use Rattle.lk_sim_nodes.specs.declared.sim_node.RunState.TheVariants.{Up, Down}
use Rattle.lk_sim_nodes.specs.declared.sim_node.SimNode.{SimNode}
use Rattle.lk_guarantees.specs.Disks.{EachImage, HasSnapshot}
use Rattle.lk_guarantees.specs.Guarantee.{kept_by_replica, AreReplies}

-- ---- how a world begins

-- nothing has happened
abbrev pub nothing : Genesis → WorldState ReplicaValue
nothing genesis = record { genesis = genesis; sim_nodes = []; sent = []; trace = []; ended = None }

-- ---- what an event asks, and which node it is for

-- the request in a line of the trace
abbrev pub asked_of : Note → Option Asking
asked_of (note.Asked r) = Some r
asked_of (note.Counted node i set v) = None
asked_of (note.Ran node i v) = None
asked_of (note.Answered node client number answer) = None
asked_of (note.Told node client number last) = None

-- the requests that were asked, in order
abbrev pub requests : List Note → List Asking
requests trace = filter_map asked_of trace

-- bytes that are a request ask it, and others ask nothing
abbrev pub AreAskedIn : List ℕ → List Asking → Type 0
AreAskedIn bytes asked =
    ((r : Asking) × ((cluster : ℕ) × Spells (record { cluster = cluster; content = content.Request r }) bytes)
    × (asked ≡ r ∷ []))
    ⊎ (((r : Asking) (cluster : ℕ) → Spells (record { cluster = cluster; content = content.Request r }) bytes → ⊥)
    × (asked ≡ []))

-- a client asks, or bytes are injected; no other event asks
abbrev pub AreAskedBy : Event → List Asking → Type 0
AreAskedBy (event.Client n r) asked = asked ≡ r ∷ []
AreAskedBy (event.Inject n bytes) asked = AreAskedIn bytes.items asked
AreAskedBy _ asked = asked ≡ []

-- the node that an event is for. Datagrams count from 1
abbrev pub IsFor : List Datagram → Event → ℕ → Type 0
IsFor sent (event.Start n) number = number ≡ n
IsFor sent (event.Restart n) number = number ≡ n
IsFor sent (event.Tick n) number = number ≡ n
IsFor sent (event.Nudge n reason) number = number ≡ n
IsFor sent (event.Compact n) number = number ≡ n
IsFor sent (event.Client n r) number = number ≡ n
IsFor sent (event.Deliver k) number =
    (j : ℕ) × (d : Datagram) × (k ≡ j + 1) × (slice_get sent j ≡ Some d) × (d.to ≡ party.Node number)
IsFor sent (event.Group n group_inputs) number = number ≡ n
IsFor sent (event.Inject n bytes) number = number ≡ n
IsFor sent (event.Stop n x y) number = number ≡ n
IsFor sent (event.FailAt n count) number = number ≡ n
IsFor sent (event.Arm n count bytes) number = number ≡ n

abbrev pub IsStarted : List (SimNode ReplicaValue) → ℕ → Type 0
IsStarted sim_nodes number = (s : SimNode ReplicaValue) × Contains sim_nodes s × (s.number ≡ number)

-- only this node may have changed, or it was added, if it was never started before
abbrev pub ChangesOnly : ℕ → List (SimNode ReplicaValue) → List (SimNode ReplicaValue) → Type 0
ChangesOnly number old new =
    (new ≡ old)
    ⊎ ((index : ℕ) × (s t : SimNode ReplicaValue) × (slice_get old index ≡ Some s) × (s.number ≡ number)
    × (t.number ≡ number) × (new ≡ set old index t))
    ⊎ ((IsStarted old number → ⊥) × ((s : SimNode ReplicaValue) × (s.number ≡ number) × (new ≡ old ++ s ∷ [])))

-- it alone is down now
abbrev pub FallsDown : ℕ → List (SimNode ReplicaValue) → List (SimNode ReplicaValue) → Type 0
FallsDown number old new =
    (index : ℕ) × (s : SimNode ReplicaValue) × (device : Memory) × (slice_get old index ≡ Some s) × (s.number ≡ number)
    × (new ≡ set old index (record { number = number; run_state = Down device }))

-- what a client asks joins the datagrams, alone, addressed to the node, is noted, alone, and changes no node
abbrev pub SendsAsAsked : WorldState ReplicaValue → Event → WorldState ReplicaValue → Type 0
SendsAsAsked old (event.Client n r) new =
    (d : Datagram) × (d.from ≡ party.Client r.client) × (d.to ≡ party.Node n)
    × Spells (record { cluster = old.genesis.cluster; content = content.Request r }) d.bytes
    × (new.sent ≡ old.sent ++ d ∷ []) × (new.trace ≡ old.trace ++ note.Asked r ∷ []) × (new.sim_nodes ≡ old.sim_nodes)
SendsAsAsked old _ new = Unit {0}

-- what was sent stays sent, and what was noted stays noted
abbrev pub Grows : WorldState ReplicaValue → WorldState ReplicaValue → Type 0
Grows old new = ((more : List Datagram) × (new.sent ≡ old.sent ++ more))
    × ((more : List Note) × (new.trace ≡ old.trace ++ more)) × (new.genesis ≡ old.genesis)

-- a stop leaves of a disk everything that was synced and up to this many of the other bytes, and all of that is synced
abbrev pub remaining : ℕ → Disk → Disk
remaining most disk = record { synced = disk.synced ++ take most disk.unsynced; unsynced = [] }

-- a node was up and is down, with this many bytes of its disk A and of its disk B, and no trap is set; all other nodes
-- are unchanged
pub record IsStopped (old new : WorldState ReplicaValue) (number x y : ℕ) : Type 0 where
  pub index : ℕ
  pub replica : ReplicaValue
  pub was_up : slice_get old.sim_nodes index ≡ Some (record { number = number; run_state = Up replica })
  pub device : Memory
  pub is_down : new.sim_nodes ≡ set old.sim_nodes index (record { number = number; run_state = Down device })
  pub disk_a : device.a ≡ remaining x (device_of replica.store).a
  pub disk_b : device.b ≡ remaining y (device_of replica.store).b
  pub untrapped : (device.meter.trap ≡ Off) × (device.meter.fuse ≡ None)
  pub nothing_sent : new.sent ≡ old.sent
  pub nothing_noted : new.trace ≡ old.trace

-- a compaction notes and sends nothing, nor does a trap that is set
abbrev pub IsSilent : WorldState ReplicaValue → Event → WorldState ReplicaValue → Type 0
IsSilent old (event.Compact number) new = (new.sent ≡ old.sent) × (new.trace ≡ old.trace)
IsSilent old (event.FailAt number count) new = (new.sent ≡ old.sent) × (new.trace ≡ old.trace)
IsSilent old (event.Arm number count bytes) new = (new.sent ≡ old.sent) × (new.trace ≡ old.trace)
IsSilent old _ new = Unit {0}

abbrev pub StopsAsAsked : WorldState ReplicaValue → Event → WorldState ReplicaValue → Type 0
StopsAsAsked old (event.Stop number x y) new = IsStopped old new number x y
StopsAsAsked old _ new = Unit {0}

-- ---- when an event is refused, and what one leaves up

abbrev pub IsUp : List (SimNode ReplicaValue) → ℕ → Type 0
IsUp sim_nodes number =
    (s : SimNode ReplicaValue) × (replica : ReplicaValue) × Contains sim_nodes s × (s.number ≡ number)
    × (s.run_state ≡ Up replica)

abbrev pub IsDown : List (SimNode ReplicaValue) → ℕ → Type 0
IsDown sim_nodes number =
    (s : SimNode ReplicaValue) × (device : Memory) × Contains sim_nodes s × (s.number ≡ number)
    × (s.run_state ≡ Down device)

-- only a node that was never started is started, and only one that is down is restarted
abbrev pub IsAlready : List (SimNode ReplicaValue) → Event → Type 0
IsAlready sim_nodes (event.Start n) = IsStarted sim_nodes n
IsAlready sim_nodes (event.Restart n) = IsUp sim_nodes n
IsAlready sim_nodes _ = ⊥

-- any other event is for a node that was started
abbrev pub LacksNode : WorldState ReplicaValue → Event → Type 0
LacksNode old (event.Start n) = ⊥
LacksNode old e = (n : ℕ) × IsFor old.sent e n × (IsStarted old.sim_nodes n → ⊥)

-- and, but for a request and a trap, for one that is up
abbrev pub LacksRunState : WorldState ReplicaValue → Event → Type 0
LacksRunState old (event.Start n) = ⊥
LacksRunState old (event.Restart n) = ⊥
LacksRunState old (event.Client n r) = ⊥
LacksRunState old (event.FailAt n count) = ⊥
LacksRunState old (event.Arm n count bytes) = ⊥
LacksRunState old e = (n : ℕ) × IsFor old.sent e n × IsDown old.sim_nodes n

-- a datagram that is to be delivered was sent, to a node; those of a group to that of the group
abbrev pub LacksDatagram : List Datagram → Event → Type 0
LacksDatagram sent (event.Deliver k) = (n : ℕ) → IsFor sent (event.Deliver k) n → ⊥
LacksDatagram sent (event.Group n group_inputs) =
    ((k : ℕ) → Contains group_inputs.items (group_input.Deliver k) → IsFor sent (event.Deliver k) n) → ⊥
LacksDatagram sent _ = ⊥

-- what only a node says is not injected
abbrev pub IsForged : Event → Type 0
IsForged (event.Inject n bytes) =
    (cluster node : ℕ) × (m : NodeMessage)
    × Spells (record { cluster = cluster; content = content.Node node m }) bytes.items
IsForged _ = ⊥

-- a world has 16 nodes, and no room for what is sent once it has more than 99,000 datagrams
abbrev pub IsFull : WorldState ReplicaValue → Event → Type 0
IsFull old (event.Start n) = 16 ≤ length old.sim_nodes
IsFull old (event.Restart n) = ⊥
IsFull old (event.Compact n) = ⊥
IsFull old (event.Stop n x y) = ⊥
IsFull old (event.FailAt n count) = ⊥
IsFull old (event.Arm n count bytes) = ⊥
IsFull old e = 99000 < length old.sent

-- a stop takes no memory, nor does a trap
abbrev pub NeedsMemory : Event → Type 0
NeedsMemory (event.Stop n x y) = ⊥
NeedsMemory (event.FailAt n count) = ⊥
NeedsMemory (event.Arm n count bytes) = ⊥
NeedsMemory _ = Unit {0}

-- why an event is refused
abbrev pub HasCause : WorldState ReplicaValue → Event → Refused → Type 0
HasCause old e NoSuchNode = LacksNode old e
HasCause old e NotUp = LacksRunState old e
HasCause old e AlreadyUp = IsAlready old.sim_nodes e
HasCause old e NoSuchDatagram = LacksDatagram old.sent e
HasCause old e Forged = IsForged e
HasCause old e WorldFull = IsFull old e
HasCause old e WorldMemory = NeedsMemory e

-- where it ended no node, the node to which an event gives something, or which it starts, is up
abbrev pub LeavesUp : WorldState ReplicaValue → Event → WorldState ReplicaValue → Type 0
LeavesUp old (event.Client n r) new = Unit {0}
LeavesUp old (event.Stop n x y) new = Unit {0}
LeavesUp old (event.FailAt n count) new = Unit {0}
LeavesUp old (event.Arm n count bytes) new = Unit {0}
LeavesUp old e new = new.ended ≡ None → (n : ℕ) × IsFor old.sent e n × IsUp new.sim_nodes n

-- the node of which an end tells
abbrev pub ended_node : End → ℕ
ended_node (Fault n number) = n
ended_node (Stopped n) = n

-- if the event ended a node, that is the node that it is for, and it is down
abbrev pub LeavesDown : WorldState ReplicaValue → Event → WorldState ReplicaValue → Type 0
LeavesDown old e new =
    (x : End) → new.ended ≡ Some x → IsFor old.sent e (ended_node x) × IsDown new.sim_nodes (ended_node x)

-- a fault that ended a node is one of its device (7), or that its store has failed before or has no generation left
-- (11): its files are never damaged (9) or another's (10)
abbrev pub IsEnding : End → Type 0
IsEnding (Fault n number) = (number ≡ 7) ⊎ (number ≡ 11)
IsEnding (Stopped n) = Unit {0}

-- and so did the one that ended a node last, if one did
abbrev pub EndsByDevice : Option End → Type 0
EndsByDevice ended = (x : End) → ended ≡ Some x → IsEnding x

-- ---- what a replica that takes something leaves

-- how the node ended that a fault has ended: with the fault of this number, and its disks are as that left them; or at
-- an armed stop, if it has reached one, for this many bytes
abbrev pub EndsOn : Option ℕ → ℕ → ℕ → Memory → Memory → Option End → Type 0
EndsOn None n number left rest ended = (ended ≡ Some (Fault n number)) × (rest.a ≡ left.a) × (rest.b ≡ left.b)
EndsOn (Some bytes) n number left rest ended =
    (ended ≡ Some (Stopped n)) × (rest.a ≡ remaining bytes left.a) × (rest.b ≡ remaining bytes left.b)

-- what a step noted, and the datagrams that it sent
abbrev pub Step : Type 0
Step = List Note × List Datagram

-- the datagrams of all of these steps
abbrev pub datagrams_of : List Step → List Datagram
datagrams_of said = flat_map (λ x. x.1) said

-- the steps, with no more than this many of their datagrams
abbrev pub up_to : ℕ → List Step → List Step
up_to most [] = []
up_to most (x ∷ said) = (x.0, take most x.1) ∷ up_to (most - length x.1) said

-- these notes are those of the steps, one step after another: what the replica noted, and then, in order, the replies
-- that it sent
abbrev pub AreNotesOf : List Step → List Note → Type 0
AreNotesOf [] notes = notes ≡ []
AreNotesOf (x ∷ said) notes =
    (replies rest : List Note) × AreReplies x.1 replies × (notes ≡ (x.0 ++ replies) ++ rest) × AreNotesOf said rest

-- a call of a replica: what it was and what it became, with its steps, or with the number of a fault
abbrev pub Call : Type 1
Call = ReplicaValue → ReplicaValue → Result (List Step) ℕ → Type 0

-- it takes this input in one step. (The contracts, `ComesTo` and `ComesToAll`, are named here and not restated)
abbrev pub Takes : Input → Call
Takes i before after (Ok said) =
    (x : Step) × (said ≡ x ∷ []) × ComesTo table_meaning IsTableText before i after (Ok x)
Takes i before after (Err number) = ComesTo table_meaning IsTableText before i after (Err number)

-- it takes these together, each in a step of its own
abbrev pub TakesAll : List Input → Call
TakesAll inputs before after came = ComesToAll table_meaning IsTableText before inputs after came

-- the replica once it has sent this many datagrams: an armed trap of its device has counted them, and nothing else has
-- changed
abbrev pub with_sends : Trap → ℕ → ReplicaValue → ReplicaValue
with_sends (Arm count bytes) sends replica =
    record replica { store = record replica.store { meter = trapped (Arm (count - sends) bytes) replica.store.meter } }
with_sends _ sends replica = replica

abbrev pub after_sends : ℕ → ReplicaValue → ReplicaValue
after_sends sends replica = with_sends replica.store.meter.trap sends replica

-- The node took something, and went on: its replica is what the call left. All that the call sent was sent; all that it
-- noted is noted, after what was just asked, and nothing else is.
pub record GoesOn (old : WorldState ReplicaValue) (n : ℕ) (Calls : Call) (asked : List Asking)
    (new : WorldState ReplicaValue) : Type 0 where
  pub index : ℕ
  pub before : ReplicaValue
  pub was_up : slice_get old.sim_nodes index ≡ Some (record { number = n; run_state = Up before })
  pub after : ReplicaValue
  pub said : List Step
  pub calls : Calls before after (Ok said)
  pub is_up : new.sim_nodes
      ≡ set old.sim_nodes index (record { number = n; run_state = Up (after_sends (length (datagrams_of said)) after) })
  pub sent : new.sent ≡ old.sent ++ datagrams_of said
  pub notes : List Note
  pub are_notes : AreNotesOf said notes
  pub noted : new.trace ≡ old.trace ++ (map (λ r. note.Asked r) asked ++ notes)
  pub none_ended : new.ended ≡ None

-- It stopped at a send, the first at which an armed trap was due: so many of the datagrams were sent, with their
-- replies noted, and everything else of the call was noted.
pub record StopsSending (old : WorldState ReplicaValue) (n : ℕ) (Calls : Call) (asked : List Asking)
    (new : WorldState ReplicaValue) : Type 0 where
  pub index : ℕ
  pub before : ReplicaValue
  pub was_up : slice_get old.sim_nodes index ≡ Some (record { number = n; run_state = Up before })
  pub after : ReplicaValue
  pub said : List Step
  pub calls : Calls before after (Ok said)
  pub sends : ℕ
  pub bytes : ℕ
  pub fewer : sends < length (datagrams_of said)
  pub armed : after.store.meter.trap ≡ Arm (sends + 1) bytes
  pub rest : Memory
  pub is_down : new.sim_nodes ≡ set old.sim_nodes index (record { number = n; run_state = Down rest })
  pub disk_a : rest.a ≡ remaining bytes (device_of after.store).a
  pub disk_b : rest.b ≡ remaining bytes (device_of after.store).b
  pub sent : new.sent ≡ old.sent ++ take sends (datagrams_of said)
  pub notes : List Note
  pub are_notes : AreNotesOf (up_to sends said) notes
  pub noted : new.trace ≡ old.trace ++ (map (λ r. note.Asked r) asked ++ notes)
  pub ended : new.ended ≡ Some (Stopped n)

-- the call failed, not for want of memory, and ended the node: it has sent nothing, and only what was asked is noted
pub record Breaks (old : WorldState ReplicaValue) (n : ℕ) (Calls : Call) (asked : List Asking)
    (new : WorldState ReplicaValue) : Type 0 where
  pub index : ℕ
  pub before : ReplicaValue
  pub was_up : slice_get old.sim_nodes index ≡ Some (record { number = n; run_state = Up before })
  pub after : ReplicaValue
  pub number : ℕ
  pub calls : Calls before after (Err number)
  pub no_memory : (number ≡ 8 → ⊥) × (number ≡ 14 → ⊥) × (number ≡ 15 → ⊥)
  pub not_starved : after.store.meter.starved ≡ false
  pub rest : Memory
  pub is_down : new.sim_nodes ≡ set old.sim_nodes index (record { number = n; run_state = Down rest })
  pub ends : EndsOn (stopping after.store.meter) n number (device_of after.store) rest new.ended
  pub nothing_sent : new.sent ≡ old.sent
  pub noted : new.trace ≡ old.trace ++ map (λ r. note.Asked r) asked

-- one of these
abbrev pub IsTaken : WorldState ReplicaValue → ℕ → Call → List Asking → WorldState ReplicaValue → Type 0
IsTaken old n Calls asked new =
    GoesOn old n Calls asked new ⊎ StopsSending old n Calls asked new ⊎ Breaks old n Calls asked new

-- what the inputs of a group give: a tick, a nudge, or the bytes of the datagram at that place
abbrev pub AreGiven : List Datagram → List GroupInput → List Input → Type 0
AreGiven sent [] given = given ≡ []
AreGiven sent (group_input.Tick ∷ group_inputs) given =
    (rest : List Input) × (given ≡ Tick ∷ rest) × AreGiven sent group_inputs rest
AreGiven sent (group_input.Nudge reason ∷ group_inputs) given =
    (rest : List Input) × (given ≡ Nudge reason ∷ rest) × AreGiven sent group_inputs rest
AreGiven sent (group_input.Deliver k ∷ group_inputs) given =
    (j : ℕ) × (d : Datagram) × (k ≡ j + 1) × (slice_get sent j ≡ Some d)
    × ((rest : List Input) × (given ≡ Heard d.bytes ∷ rest) × AreGiven sent group_inputs rest)

-- the node took the input as the contract of a replica says
abbrev pub TakesAsStated : WorldState ReplicaValue → Event → WorldState ReplicaValue → Type 0
TakesAsStated old (event.Tick n) new = IsTaken old n (Takes Tick) [] new
TakesAsStated old (event.Nudge n reason) new = IsTaken old n (Takes (Nudge reason)) [] new
TakesAsStated old (event.Inject n bytes) new =
    (asked : List Asking) × AreAskedIn bytes.items asked × IsTaken old n (Takes (Heard bytes.items)) asked new
TakesAsStated old (event.Deliver k) new =
    (n : ℕ) × (f : IsFor old.sent (event.Deliver k) n) × IsTaken old n (Takes (Heard f.1.bytes)) [] new
TakesAsStated old (event.Group n group_inputs) new =
    (given : List Input) × AreGiven old.sent group_inputs.items given
    × IsTaken old n (TakesAll given) [] new
TakesAsStated old _ new = Unit {0}

-- ---- what a start and a restart leave

-- a node that was down restarted from its disks: it is up as the contract of a replica says, and what it executed again
-- is noted. (The contract, `RevivesTo`, is named here and not restated)
pub record IsRestarted (old : WorldState ReplicaValue) (n : ℕ) (new : WorldState ReplicaValue) : Type 0 where
  pub index : ℕ
  pub device : Memory
  pub was_down : slice_get old.sim_nodes index ≡ Some (record { number = n; run_state = Down device })
  pub replica : ReplicaValue
  pub notes : List Note
  pub revives : RevivesTo table_meaning IsTableText device (header_of old.genesis n) (Ok (replica, notes))
  pub is_up : new.sim_nodes ≡ set old.sim_nodes index (record { number = n; run_state = Up replica })
  pub noted : new.trace ≡ old.trace ++ notes
  pub nothing_sent : new.sent ≡ old.sent
  pub none_ended : new.ended ≡ None

-- its restart failed as the contract of a replica says, not for want of memory, and it is down
pub record IsNotRestarted (old : WorldState ReplicaValue) (n : ℕ) (new : WorldState ReplicaValue) : Type 0 where
  pub index : ℕ
  pub device : Memory
  pub was_down : slice_get old.sim_nodes index ≡ Some (record { number = n; run_state = Down device })
  pub number : ℕ
  pub left : Memory
  pub fails : RevivesTo table_meaning IsTableText device (header_of old.genesis n) (Err (number, left))
  pub no_memory : number ≡ 8 → ⊥
  pub not_starved : left.meter.starved ≡ false
  pub rest : Memory
  pub is_down : new.sim_nodes ≡ set old.sim_nodes index (record { number = n; run_state = Down rest })
  pub ends : EndsOn (stopping left.meter) n number left rest new.ended
  pub nothing_noted : new.trace ≡ old.trace
  pub nothing_sent : new.sent ≡ old.sent

-- a new node started from two empty disks: it is up as the contract of a replica says
pub record IsBegun (old : WorldState ReplicaValue) (n : ℕ) (new : WorldState ReplicaValue) : Type 0 where
  pub replica : ReplicaValue
  pub notes : List Note
  pub revives : RevivesTo table_meaning IsTableText empty (header_of old.genesis n) (Ok (replica, notes))
  pub is_up : new.sim_nodes ≡ old.sim_nodes ++ record { number = n; run_state = Up replica } ∷ []
  pub noted : new.trace ≡ old.trace ++ notes
  pub nothing_sent : new.sent ≡ old.sent
  pub none_ended : new.ended ≡ None

-- its start failed as the contract of a replica says, not for want of memory, and it is down
pub record IsNotBegun (old : WorldState ReplicaValue) (n : ℕ) (new : WorldState ReplicaValue) : Type 0 where
  pub number : ℕ
  pub left : Memory
  pub fails : RevivesTo table_meaning IsTableText empty (header_of old.genesis n) (Err (number, left))
  pub no_memory : number ≡ 8 → ⊥
  pub not_starved : left.meter.starved ≡ false
  pub rest : Memory
  pub is_down : new.sim_nodes ≡ old.sim_nodes ++ record { number = n; run_state = Down rest } ∷ []
  pub ends : EndsOn (stopping left.meter) n number left rest new.ended
  pub nothing_noted : new.trace ≡ old.trace
  pub nothing_sent : new.sent ≡ old.sent

-- a node is started or restarted as the contract of a replica says
abbrev pub RestartsAsStated : WorldState ReplicaValue → Event → WorldState ReplicaValue → Type 0
RestartsAsStated old (event.Start n) new = IsBegun old n new ⊎ IsNotBegun old n new
RestartsAsStated old (event.Restart n) new = IsRestarted old n new ⊎ IsNotRestarted old n new
RestartsAsStated old _ new = Unit {0}

-- an event that is done
pub record IsDone (old : WorldState ReplicaValue) (e : Event) (new : WorldState ReplicaValue) : Type 0 where
  pub asked : (rs : List Asking) × AreAskedBy e rs × (requests new.trace ≡ requests old.trace ++ rs)
  pub only : (number : ℕ) × IsFor old.sent e number × ChangesOnly number old.sim_nodes new.sim_nodes
  pub sends : SendsAsAsked old e new
  pub stops : StopsAsAsked old e new
  pub silent : IsSilent old e new
  pub up : LeavesUp old e new
  pub down : LeavesDown old e new
  pub takes : TakesAsStated old e new
  pub restarts : RestartsAsStated old e new
  pub grows : Grows old new

-- a node that has compacted, and that nothing has ended, remembers a snapshot of everything that it has executed,
-- whatever a stop may leave of it
abbrev pub Compacts : Event → WorldState ReplicaValue → Type 0
Compacts (event.Compact n) new =
    new.ended ≡ None
    → (s : SimNode ReplicaValue) × (replica : ReplicaValue) × Contains new.sim_nodes s × (s.number ≡ n)
    × (s.run_state ≡ Up replica)
    × EachImage new.genesis s
    (λ memory. (memory.position ≡ (kept_by_replica replica).executed) × HasSnapshot new.genesis new.sent memory)
Compacts _ new = Unit {0}

-- an event that is refused has a cause and changes nothing. When out of memory it notes and sends nothing, and the
-- node that it is for may have gone down
pub record IsRefused (old : WorldState ReplicaValue) (e : Event) (refused : Refused)
    (new : WorldState ReplicaValue) : Type 0 where
  pub cause : HasCause old e refused
  pub unchanged : (refused ≡ WorldMemory → ⊥) → new ≡ old
  pub only : (new.sim_nodes ≡ old.sim_nodes) ⊎ ((number : ℕ) × IsFor old.sent e number × FallsDown number old.sim_nodes
      new.sim_nodes)
  pub nothing_sent : new.sent ≡ old.sent
  pub nothing_noted : new.trace ≡ old.trace
  pub same_genesis : new.genesis ≡ old.genesis

-- events are done, one after another
abbrev pub AreDone : List Event → WorldState ReplicaValue → WorldState ReplicaValue → Type 0
AreDone [] old new = new ≡ old
AreDone (e ∷ events) old new = (mid : WorldState ReplicaValue) × IsDone old e mid × AreDone events mid new

-- all of them were, or the next one is rejected
abbrev pub EndsSo : List Event → ℕ → Option Refused → WorldState ReplicaValue → WorldState ReplicaValue → Type 0
EndsSo events done None last new = (done ≡ length events) × (new ≡ last)
EndsSo events done (Some refused) last new =
    (e : Event) × (slice_get events done ≡ Some e) × IsRefused last e refused new

-- a run does this many of the events in order, and ends like this
pub record IsRun (old : WorldState ReplicaValue) (events : List Event) (how : RunEnd)
    (new : WorldState ReplicaValue) : Type 0 where
  pub last : WorldState ReplicaValue
  pub done : AreDone (take how.done events) old last
  pub ends : EndsSo events how.done how.refused last new

-- ---- which worlds there are

-- an event is done or refused
abbrev pub Happens : WorldState ReplicaValue → WorldState ReplicaValue → Type 0
Happens old new = (e : Event) × (IsDone old e new ⊎ ((refused : Refused) × IsRefused old e refused new))

-- one after another, up to this
abbrev pub HappenAll : WorldState ReplicaValue → List (WorldState ReplicaValue) → WorldState ReplicaValue → Type 0
HappenAll first [] last = last ≡ first
HappenAll first (next ∷ worlds) last = Happens first next × HappenAll next worlds last

-- the world is reachable: events lead to it from one in which nothing has happened
abbrev pub IsReachable : Genesis → WorldState ReplicaValue → Type 0
IsReachable genesis world = (worlds : List (WorldState ReplicaValue)) × HappenAll (nothing genesis) worlds world
