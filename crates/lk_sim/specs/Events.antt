-- What an event does to a world.
use Rattle.std.specs.Prelude.{◌≡◌, ℕ, ◌+◌, ◌<◌, ◌⊎◌, length, map, take, List, [], ◌∷◌, ◌++◌, Option, Some, None, Result}
use Rattle.std.specs.Prelude.{Ok, Err, set, Contains, Vec, vec_len, vec_capacity}
use Rattle.std.specs.Global.{Global}
use Rattle.std.specs.List.{AllByRecursion}
use Rattle.lk_memory_disk.specs.Memory.{Memory, empty}
use Rattle.lk_disk.specs.Meters.{CallsSucceed, stopping}
use Rattle.lk_disk.specs.declared.trap.Trap.{Trap}
use Rattle.lk_disk.specs.declared.trap.Trap.TheVariants.{Fail, Arm}
use Rattle.lk_store_format.specs.Values.{HeaderValue}
use Rattle.lk_log.specs.Causes.{rebase_calls}
use Rattle.lk_messages.specs.Grammar.{Spells}
use Rattle.lk_messages.specs.declared.message.Content.TheVariants as content
use Rattle.lk_agreement_laws.specs.declared.party.Party.TheVariants as party
use Rattle.lk_node_interface.specs.declared.input.Input.{Input}
use Rattle.lk_node_interface.specs.declared.input.Input.TheVariants.{Tick, Nudge, Datagram as Heard}
use Rattle.lk_node_interface.specs.declared.note.Note.{Note}
use Rattle.lk_node_interface.specs.declared.note.Note.TheVariants as note
use Rattle.lk_node.specs.Histories.{Datagram, Genesis, RequestValue}
use Rattle.lk_node.specs.Leavings.{header_of}
use Rattle.lk_node.specs.BorneOut.{IsOfNode}
use Rattle.lk_replica.specs.Behaviours.{Behaviour}
use Rattle.lk_replica.specs.Together.{Said, sent_of}
use Rattle.lk_sim_nodes.specs.Ends.{Breaks, BreaksTogether, StaysDown, FailsToCompact, IsOtherFault, IsOutOfMemory}
use Rattle.lk_sim_nodes.specs.Ends.{IsEndByCalls}
use Rattle.lk_sim_nodes.specs.Ends.{end_by}
use Rattle.lk_sim_nodes.specs.SimNodes.{At, stopped_on, rested_on, IsTrapped}
use Rattle.lk_sim_nodes.specs.Sends.{stop_among, after_sends, cut_short}
use Rattle.lk_sim_nodes.specs.Told.{NotesReplies}
use Rattle.lk_sim_nodes.specs.declared.end.End.TheVariants.{Stopped}
use Rattle.lk_sim_nodes.specs.declared.refused.Refused.{Refused}
use Rattle.lk_sim_nodes.specs.declared.refused.Refused.TheVariants.{WorldMemory}
use Rattle.lk_sim_nodes.specs.declared.sim_node.SimNode.{SimNode}
use Rattle.lk_sim_nodes.specs.declared.sim_node.RunState.{RunState}
use Rattle.lk_sim_nodes.specs.declared.sim_node.RunState.TheVariants.{Up, Down}
use Rattle.lk_sim.specs.Groups.{AreNotesOf, given_by}
use Rattle.lk_sim.specs.Heard.{IsRequestIn}
use Rattle.lk_sim.specs.Refusals.{datagram_at, IsPermitted, MayGroup, MayInject, IsRejectedFor, NoGroup, NoInjection}
use Rattle.lk_sim.specs.WorldStates.{WorldState}
use Rattle.lk_sim.specs.Traces.{asked_note}
use Rattle.lk_sim.specs.declared.event.Event.{Event}
use Rattle.lk_sim.specs.declared.event.Event.TheVariants as event
use Rattle.lk_sim.specs.declared.event.GroupInput.{GroupInput}

-- of all nodes only this one has changed, from `s` to `t`, and has kept its number
pub record ReplacesSeat {R : Type 0} (old new : List (SimNode R)) (s t : SimNode R) : Type 0 where
  pub index : ℕ
  pub at : At old index s
  pub number : t.number ≡ s.number
  pub sim_nodes : new ≡ set old index t

-- each of these notes is of what a node counted or executed
abbrev pub AreOfNodes : List Note → Type 0
AreOfNodes notes = (x : Note) → Contains notes x → IsOfNode x

-- these notes and datagrams were added
pub record Adds {R : Type 0} (old new : WorldState R) (notes : List Note) (batch : List Datagram) : Type 0 where
  pub genesis : new.genesis ≡ old.genesis
  pub sent : new.sent ≡ old.sent ++ batch
  pub trace : new.trace ≡ old.trace ++ notes

-- a fault of that kind, or an armed stop at a call of the device, ended the node, which is down: it noted and sent
-- nothing
pub record EndsByFault {R : Type 0} (Ends : ℕ → Memory → Type 0) (old new : WorldState R) (t : SimNode R)
    (asked : List Note) : Type 0 where
  pub number : ℕ
  pub left : Memory
  pub ends : Ends number left
  pub no_want : IsOtherFault number left
  pub down : t.run_state ≡ Down (rested_on (stopping left.meter) left)
  pub ended : new.ended ≡ Some (end_by (stopping left.meter) t.number number)
  pub told : IsEndByCalls new.ended
  pub adds : Adds old new asked []

-- ---- a node takes an input

-- it goes on: all calls of its device have succeeded, no armed stop happened at a send, what its replica noted and sent
-- was added, after a request that was just asked, with its answers and passes noted as they were sent
pub record GoesOn {R : Type 0} (b : Behaviour R) (old new : WorldState R) (r : R) (t : SimNode R) (x : Input)
    (asked : List Note) : Type 0 where
  pub replica : R
  pub notes : List Note
  pub told : List Note
  pub batch : List Datagram
  pub takes : b.Takes r x replica (Ok (notes, batch))
  pub calls : ℕ
  pub calls_succeed : CallsSucceed (b.memory r).meter (b.memory replica).meter calls
  pub no_stop : stop_among (b.memory replica).meter.trap (length batch) ≡ None
  pub up : t.run_state ≡ Up (after_sends b (length batch) replica)
  pub of_nodes : AreOfNodes notes
  pub tells : NotesReplies batch told
  pub adds : Adds old new ((asked ++ notes) ++ told) batch
  pub ended : new.ended ≡ None

-- an armed stop ended it at a send: everything that its replica noted was added, and what it sent before that
pub record StopsSending {R : Type 0} (b : Behaviour R) (old new : WorldState R) (r : R) (t : SimNode R) (x : Input)
    (asked : List Note) : Type 0 where
  pub replica : R
  pub notes : List Note
  pub told : List Note
  pub batch : List Datagram
  pub takes : b.Takes r x replica (Ok (notes, batch))
  pub calls : ℕ
  pub calls_succeed : CallsSucceed (b.memory r).meter (b.memory replica).meter calls
  pub sends : ℕ
  pub bytes : ℕ
  pub stop : stop_among (b.memory replica).meter.trap (length batch) ≡ Some (sends, bytes)
  pub down : t.run_state ≡ Down (stopped_on bytes bytes (b.memory replica))
  pub of_nodes : AreOfNodes notes
  pub tells : NotesReplies (take sends batch) told
  pub adds : Adds old new ((asked ++ notes) ++ told) (take sends batch)
  pub ended : new.ended ≡ Some (Stopped t.number)

-- the result of this input: the node goes on, or stops at a send, or a fault ends it
abbrev pub Comes : {R : Type 0} → Behaviour R → WorldState R → WorldState R → R → SimNode R → Input → List Note → Type 0
Comes b old new r t x asked =
    GoesOn b old new r t x asked ⊎ StopsSending b old new r t x asked ⊎ EndsByFault (Breaks b r x) old new t asked

-- the node of this number took this input
pub record IsGiven {R : Type 0} (b : Behaviour R) (old new : WorldState R) (n : ℕ) (x : Input)
    (asked : List Note) : Type 0 where
  pub sim_node : SimNode R
  pub number : sim_node.number ≡ n
  pub replica : R
  pub up : sim_node.run_state ≡ Up replica
  pub next : SimNode R
  pub replaces : ReplacesSeat old.sim_nodes new.sim_nodes sim_node next
  pub comes_to : Comes b old new replica next x asked

-- the node to which the datagram is addressed took its bytes
pub record IsDelivered {R : Type 0} (b : Behaviour R) (old new : WorldState R) (k : ℕ) : Type 0 where
  pub datagram : Datagram
  pub stands : datagram_at old.sent k ≡ Some datagram
  pub node : ℕ
  pub bound : datagram.to ≡ party.Node node
  pub given : IsGiven b old new node (Heard datagram.bytes) []

-- ---- a node takes a group

-- each step itself notes what it counted and executed, and nothing else
abbrev pub AreAllOfNodes : List Said → Type 0
AreAllOfNodes said = AllByRecursion (λ (x : Said). AreOfNodes x.0) said

-- it goes on: all calls of its device have succeeded, no armed stop happened at a send, and what the steps noted and
-- sent was added, step by step, with the answers and passes noted as they were sent
pub record GoesOnTogether {R : Type 0} (b : Behaviour R) (old new : WorldState R) (r : R) (t : SimNode R)
    (given : List Input) : Type 0 where
  pub replica : R
  pub said : List Said
  pub notes : List Note
  pub takes : b.TakesAll r given replica (Ok said)
  pub calls : ℕ
  pub calls_succeed : CallsSucceed (b.memory r).meter (b.memory replica).meter calls
  pub no_stop : stop_among (b.memory replica).meter.trap (length (sent_of said)) ≡ None
  pub up : t.run_state ≡ Up (after_sends b (length (sent_of said)) replica)
  pub of_nodes : AreAllOfNodes said
  pub tells : AreNotesOf said notes
  pub adds : Adds old new notes (sent_of said)
  pub ended : new.ended ≡ None

-- an armed stop ended it at a send: everything that the steps noted was added, and what they sent before that
pub record StopsTogether {R : Type 0} (b : Behaviour R) (old new : WorldState R) (r : R) (t : SimNode R)
    (given : List Input) : Type 0 where
  pub replica : R
  pub said : List Said
  pub notes : List Note
  pub takes : b.TakesAll r given replica (Ok said)
  pub calls : ℕ
  pub calls_succeed : CallsSucceed (b.memory r).meter (b.memory replica).meter calls
  pub sends : ℕ
  pub bytes : ℕ
  pub stop : stop_among (b.memory replica).meter.trap (length (sent_of said)) ≡ Some (sends, bytes)
  pub down : t.run_state ≡ Down (stopped_on bytes bytes (b.memory replica))
  pub of_nodes : AreAllOfNodes said
  pub tells : AreNotesOf (cut_short sends said) notes
  pub adds : Adds old new notes (take sends (sent_of said))
  pub ended : new.ended ≡ Some (Stopped t.number)

-- the result of the group; if a fault ended the node, or an armed stop at a call of its device, it noted and sent
-- nothing
abbrev pub ComesTogether : {R : Type 0} → Behaviour R → WorldState R → WorldState R → R → SimNode R
    → List Input → Type 0
ComesTogether b old new r t given =
    GoesOnTogether b old new r t given ⊎ StopsTogether b old new r t given
    ⊎ EndsByFault (BreaksTogether b r given) old new t []

-- the node of this number took these together
pub record IsGivenTogether {R : Type 0} (b : Behaviour R) (old new : WorldState R) (n : ℕ)
    (given : List Input) : Type 0 where
  pub sim_node : SimNode R
  pub number : sim_node.number ≡ n
  pub replica : R
  pub up : sim_node.run_state ≡ Up replica
  pub next : SimNode R
  pub replaces : ReplacesSeat old.sim_nodes new.sim_nodes sim_node next
  pub comes_to : ComesTogether b old new replica next given

-- the node took these bytes, and a request in them was noted as asked
pub record IsInjected {R : Type 0} (b : Behaviour R) (old new : WorldState R) (n : ℕ) (bytes : List ℕ) : Type 0 where
  pub request : Option RequestValue
  pub asks : IsRequestIn bytes request
  pub given : IsGiven b old new n (Heard bytes) (asked_note request)

-- the client's datagram was added, addressed to the node, and noted as asked
pub record IsAsked {R : Type 0} (old new : WorldState R) (n : ℕ) (r : RequestValue) : Type 0 where
  pub datagram : Datagram
  pub from : datagram.from ≡ party.Client r.client
  pub to : datagram.to ≡ party.Node n
  pub spelled : Spells (record { cluster = old.genesis.cluster; content = content.Request r }) datagram.bytes
  pub sim_nodes : new.sim_nodes ≡ old.sim_nodes
  pub adds : Adds old new (note.Asked r ∷ []) (datagram ∷ [])
  pub ended : new.ended ≡ None

-- ---- a node starts

-- it restarted from this device, and what it executed was noted
pub record IsRevived {R : Type 0} (b : Behaviour R) (old new : WorldState R) (t : SimNode R) (device : Memory)
    : Type 0 where
  pub replica : R
  pub up : t.run_state ≡ Up replica
  pub notes : List Note
  pub revives : b.Revives device (header_of old.genesis t.number) (Ok (replica, notes))
  pub calls : ℕ
  pub calls_succeed : CallsSucceed device.meter (b.memory replica).meter calls
  pub of_nodes : AreOfNodes notes
  pub adds : Adds old new notes []
  pub ended : new.ended ≡ None

-- the result of a restart: the node is up, or a fault has left it down
abbrev pub ComesUp : {R : Type 0} → Behaviour R → WorldState R → WorldState R → SimNode R → Memory → Type 0
ComesUp b old new t device =
    IsRevived b old new t device ⊎ EndsByFault (StaysDown b device (header_of old.genesis t.number)) old new t []

-- a node was added, and started with empty disks
pub record IsAdded {R : Type 0} (b : Behaviour R) (old new : WorldState R) (n : ℕ) : Type 0 where
  pub sim_node : SimNode R
  pub number : sim_node.number ≡ n
  pub sim_nodes : new.sim_nodes ≡ old.sim_nodes ++ sim_node ∷ []
  pub comes : ComesUp b old new sim_node empty

-- a node that was down restarted from its disks
pub record IsBack {R : Type 0} (b : Behaviour R) (old new : WorldState R) (n : ℕ) : Type 0 where
  pub sim_node : SimNode R
  pub number : sim_node.number ≡ n
  pub device : Memory
  pub down : sim_node.run_state ≡ Down device
  pub next : SimNode R
  pub replaces : ReplacesSeat old.sim_nodes new.sim_nodes sim_node next
  pub comes : ComesUp b old new next device

-- ---- a node compacts

-- it goes on, with a snapshot of everything executed: all calls of its device have succeeded, and nothing was noted or
-- sent
pub record GoesOnCompacted {R : Type 0} (b : Behaviour R) (old new : WorldState R) (r : R) (t : SimNode R)
    : Type 0 where
  pub replica : R
  pub compacts : b.Compacts r replica (Ok tt)
  pub calls_succeed : CallsSucceed (b.memory r).meter (b.memory replica).meter rebase_calls
  pub up : t.run_state ≡ Up replica
  pub adds : Adds old new [] []
  pub ended : new.ended ≡ None

-- a node that was up compacted
pub record IsCompacted {R : Type 0} (b : Behaviour R) (old new : WorldState R) (n : ℕ) : Type 0 where
  pub sim_node : SimNode R
  pub number : sim_node.number ≡ n
  pub replica : R
  pub up : sim_node.run_state ≡ Up replica
  pub next : SimNode R
  pub replaces : ReplacesSeat old.sim_nodes new.sim_nodes sim_node next
  pub comes_to : GoesOnCompacted b old new replica next ⊎ EndsByFault (FailsToCompact b replica) old new next []

-- ---- a node goes down, or its device will fail

-- the node stopped, and its disks kept up to `x` and `y` of their unsynced bytes
pub record GoesDown {R : Type 0} (b : Behaviour R) (old new : WorldState R) (n x y : ℕ) : Type 0 where
  pub sim_node : SimNode R
  pub number : sim_node.number ≡ n
  pub replica : R
  pub up : sim_node.run_state ≡ Up replica
  pub next : SimNode R
  pub replaces : ReplacesSeat old.sim_nodes new.sim_nodes sim_node next
  pub down : next.run_state ≡ Down (stopped_on x y (b.memory replica))
  pub adds : Adds old new [] []
  pub ended : new.ended ≡ None

-- a trap was set at the device of the node
pub record HasTrap {R : Type 0} (b : Behaviour R) (old new : WorldState R) (n : ℕ) (trap : Trap) : Type 0 where
  pub sim_node : SimNode R
  pub number : sim_node.number ≡ n
  pub next : SimNode R
  pub replaces : ReplacesSeat old.sim_nodes new.sim_nodes sim_node next
  pub trapped : IsTrapped b sim_node next trap
  pub adds : Adds old new [] []
  pub ended : new.ended ≡ None

-- ---- an event

-- the result of each event
abbrev pub HasEffect : {R : Type 0} → Behaviour R → WorldState R → Event → WorldState R → Type 0
HasEffect b old (event.Start n) new = IsAdded b old new n
HasEffect b old (event.Restart n) new = IsBack b old new n
HasEffect b old (event.Tick n) new = IsGiven b old new n Tick []
HasEffect b old (event.Nudge n reason) new = IsGiven b old new n (Nudge reason) []
HasEffect b old (event.Compact n) new = IsCompacted b old new n
HasEffect b old (event.Client n r) new = IsAsked old new n r
HasEffect b old (event.Deliver k) new = IsDelivered b old new k
HasEffect b old (event.Group n group_inputs) new =
    IsGivenTogether b old new n (map (given_by old.sent) group_inputs.items)
HasEffect b old (event.Inject n bytes) new = IsInjected b old new n bytes.items
HasEffect b old (event.Stop n x y) new = GoesDown b old new n x y
HasEffect b old (event.FailAt n count) new = HasTrap b old new n (Fail count)
HasEffect b old (event.Arm n count bytes) new = HasTrap b old new n (Arm count bytes)

-- the event is permitted, and has its result
abbrev pub IsExecuted : {R : Type 0} → Behaviour R → WorldState R → Event → WorldState R → Type 0
IsExecuted b old e new = IsPermitted old e × HasEffect b old e new

-- ---- what running out of memory leaves

-- the result of a call takes memory: the call ran out of memory, or there is something to note or send
abbrev pub NeedsMemory : Result (List Note × List Datagram) ℕ → Memory → Type 0
NeedsMemory (Ok told) left = told.0 ≡ [] → told.1 ≡ [] → ⊥
NeedsMemory (Err number) left = IsOutOfMemory number left

-- such a call of the replica left this device
abbrev pub LeftBy : {R : Type 0} → Behaviour R → Input → RunState R → Memory → Type 0
LeftBy {R = R} b x run_state left =
    (r q : R) × (came : Result (List Note × List Datagram) ℕ) × (run_state ≡ Up r) × b.Takes r x q came
    × (left ≡ b.memory q) × NeedsMemory came left

-- what a group came to takes memory: it was refused when out of memory, or there is what a step noted or sent
abbrev pub GroupNeedsMemory : Result (List Said) ℕ → Memory → Type 0
GroupNeedsMemory (Ok said) left = said ≡ [] → ⊥
GroupNeedsMemory (Err number) left = IsOutOfMemory number left

-- such a call for a group left this device
abbrev pub LeftByGroup : {R : Type 0} → Behaviour R → List Input → RunState R → Memory → Type 0
LeftByGroup {R = R} b given run_state left =
    (r q : R) × (came : Result (List Said) ℕ) × (run_state ≡ Up r) × b.TakesAll r given q came × (left ≡ b.memory q)
    × GroupNeedsMemory came left

-- this is the device of a restart whose result takes memory: it ran out of memory, or there is something to note
abbrev pub IsOf : {R : Type 0} → Behaviour R → Result (R × List Note) (ℕ × Memory) → Memory → Type 0
IsOf b (Ok came) left = (left ≡ b.memory came.0) × (came.1 ≡ [] → ⊥)
IsOf b (Err came) left = (left ≡ came.1) × IsOutOfMemory came.0 came.1

-- such a restart left this device
abbrev pub LeftByRevival : {R : Type 0} → Behaviour R → HeaderValue → RunState R → Memory → Type 0
LeftByRevival {R = R} b header run_state left =
    (d : Memory) × (came : Result (R × List Note) (ℕ × Memory)) × (run_state ≡ Down d)
    × b.Revives d header came × IsOf b came left

-- a Start takes memory: there was no room for the node's place, or its start with empty disks takes memory
abbrev pub StartWants : {R : Type 0} → Behaviour R → Genesis → ℕ → Vec (SimNode R) Global → Type 0
StartWants b genesis n sim_nodes =
    (vec_capacity sim_nodes < vec_len sim_nodes + 1)
    ⊎ ((left : Memory) × LeftByRevival b (header_of genesis n) (Down empty) left)

-- a compaction that ran out of memory left this device
abbrev pub LeftByCompacting : {R : Type 0} → Behaviour R → RunState R → Memory → Type 0
LeftByCompacting {R = R} b run_state left =
    (r q : R) × (number : ℕ) × (run_state ≡ Up r) × b.Compacts r q (Err number) × (left ≡ b.memory q)
    × IsOutOfMemory number left

-- the node has stopped, with none of the unsynced bytes of the disks that its call had left
pub record IsHalted {R : Type 0} (Left : RunState R → Memory → Type 0) (old new : WorldState R) (n : ℕ) : Type 0 where
  pub sim_node : SimNode R
  pub number : sim_node.number ≡ n
  pub next : SimNode R
  pub replaces : ReplacesSeat old.sim_nodes new.sim_nodes sim_node next
  pub device : Memory
  pub left : Left sim_node.run_state device
  pub down : next.run_state ≡ Down (stopped_on 0 0 device)
  pub adds : Adds old new [] []
  pub ended : new.ended ≡ old.ended

-- what running out of memory leaves of injected bytes: nothing has changed, as there was no room for the note of the
-- request in them; or the node has stopped in a call that takes memory
abbrev pub WantsInjection : {R : Type 0} → Behaviour R → WorldState R → ℕ → List ℕ → WorldState R → Type 0
WantsInjection b old n bytes new =
    ((new ≡ old) × ((r : RequestValue) × IsRequestIn bytes (Some r))) ⊎ IsHalted (LeftBy b (Heard bytes)) old new n

-- what running out of memory leaves of a group: nothing has changed, as there was no room for the inputs of a group
-- that is not empty; or the node has stopped in a call that takes memory
abbrev pub WantsGroup : {R : Type 0} → Behaviour R → WorldState R → ℕ → List GroupInput → WorldState R → Type 0
WantsGroup b old n group_inputs new =
    ((new ≡ old) × (0 < length group_inputs))
    ⊎ IsHalted (LeftByGroup b (map (given_by old.sent) group_inputs)) old new n

-- what running out of memory leaves of an event: nothing was noted or sent, and the node that was stepping, compacting
-- or restarting has stopped. If no node was stepping yet, or on a Start, nothing has changed. A Stop and the setting of
-- a trap take no memory, nor does a call that ended with another fault or left nothing to note or send; a client's
-- request always takes some, for its bytes
abbrev pub Wants : {R : Type 0} → Behaviour R → WorldState R → Event → WorldState R → Type 0
Wants b old (event.Start n) new = new ≡ old
Wants b old (event.Restart n) new = IsHalted (LeftByRevival b (header_of old.genesis n)) old new n
Wants b old (event.Tick n) new = IsHalted (LeftBy b Tick) old new n
Wants b old (event.Nudge n reason) new = IsHalted (LeftBy b (Nudge reason)) old new n
Wants b old (event.Compact n) new = IsHalted (LeftByCompacting b) old new n
Wants b old (event.Client n r) new = new ≡ old
Wants b old (event.Deliver k) new =
    (new ≡ old) ⊎ ((n : ℕ) × (d : Datagram) × (datagram_at old.sent k ≡ Some d) × (d.to ≡ party.Node n)
    × IsHalted (LeftBy b (Heard d.bytes)) old new n)
Wants b old (event.Group n group_inputs) new = WantsGroup b old n group_inputs.items new
Wants b old (event.Inject n bytes) new = WantsInjection b old n bytes.items new
Wants b old (event.Stop n x y) new = ⊥
Wants b old (event.FailAt n count) new = ⊥
Wants b old (event.Arm n count bytes) new = ⊥

-- what a rejected event leaves. Memory runs out only if nothing else rejects the event
abbrev pub IsRefused : {R : Type 0} → Behaviour R → WorldState R → Event → Refused → WorldState R → Type 0
IsRefused b old e r new = (IsRejectedFor old e r × (new ≡ old)) ⊎ ((r ≡ WorldMemory) × IsPermitted old e
    × Wants b old e new)

-- what a rejected injection leaves
abbrev pub IsNotInjected : {R : Type 0} → Behaviour R → WorldState R → ℕ → List ℕ → Refused → WorldState R → Type 0
IsNotInjected b old n bytes r new =
    (NoInjection old.sim_nodes old.sent n bytes r × (new ≡ old))
    ⊎ ((r ≡ WorldMemory) × MayInject old n bytes × WantsInjection b old n bytes new)

-- what a rejected group leaves
abbrev pub IsNotGrouped : {R : Type 0} → Behaviour R → WorldState R → ℕ → List GroupInput → Refused
    → WorldState R → Type 0
IsNotGrouped b old n group_inputs r new =
    (NoGroup old.sim_nodes old.sent n group_inputs r × (new ≡ old))
    ⊎ ((r ≡ WorldMemory) × MayGroup old n group_inputs × WantsGroup b old n group_inputs new)

-- ---- what every event keeps

-- the earlier datagrams are still in the list, before all later ones
abbrev pub Grows : {R : Type 0} → WorldState R → WorldState R → Type 0
Grows old new = (more : List Datagram) × (new.sent ≡ old.sent ++ more)
