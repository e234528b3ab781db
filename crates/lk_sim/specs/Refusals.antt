-- Why an event is rejected, the smallest number first.
use Rattle.std.specs.Prelude.{◌≡◌, ℕ, zero, suc, ◌<◌, ◌≤◌, List, length, Option, Some, None, slice_get}
use Rattle.std.specs.List.{AllByRecursion}
use Rattle.lk_agreement_laws.specs.declared.party.Party.{Party}
use Rattle.lk_agreement_laws.specs.declared.party.Party.TheVariants as party
use Rattle.lk_node.specs.Histories.{Datagram}
use Rattle.lk_sim.specs.Heard.{IsForged}
use Rattle.lk_sim.specs.WorldStates.{WorldState}
use Rattle.lk_sim_nodes.specs.Refusals.{NoneUp, NoRestart}
use Rattle.lk_sim_nodes.specs.SimNodes.{IsStarted, IsUp, IsDown, HasNo}
use Rattle.lk_sim.specs.declared.event.Event.{Event}
use Rattle.lk_sim.specs.declared.event.Event.TheVariants as event
use Rattle.lk_sim.specs.declared.event.GroupInput.{GroupInput}
use Rattle.lk_sim.specs.declared.event.GroupInput.TheVariants as group_input
use Rattle.lk_sim_nodes.specs.declared.refused.Refused.{Refused}
use Rattle.lk_sim_nodes.specs.declared.refused.Refused.TheVariants.{NoSuchNode, NotUp, AlreadyUp, NoSuchDatagram}
use Rattle.lk_sim_nodes.specs.declared.refused.Refused.TheVariants.{Forged, WorldFull}
use Rattle.lk_sim_nodes.specs.declared.sim_node.SimNode.{SimNode}

-- there are more than 99,000 datagrams
abbrev pub IsFull : List Datagram → Type 0
IsFull sent = 99000 < length sent

abbrev pub HasRoom : List Datagram → Type 0
HasRoom sent = length sent ≤ 99000

-- the datagram at this place. Places count from 1
abbrev pub datagram_at : List Datagram → ℕ → Option Datagram
datagram_at sent zero = None
datagram_at sent (suc k) = slice_get sent k

-- a tick or a nudge, or its datagram exists, addressed to the node
abbrev pub IsFor : List Datagram → ℕ → GroupInput → Type 0
IsFor sent n group_input.Tick = Unit {0}
IsFor sent n (group_input.Nudge reason) = Unit {0}
IsFor sent n (group_input.Deliver k) = (d : Datagram) × (datagram_at sent k ≡ Some d) × (d.to ≡ party.Node n)

-- the same of each of these
abbrev pub AreFor : List Datagram → ℕ → List GroupInput → Type 0
AreFor sent n group_inputs = AllByRecursion (IsFor sent n) group_inputs

-- ---- the reasons

-- the node must have been started
abbrev pub NotStarted : {R : Type 0} → List (SimNode R) → ℕ → Refused → Type 0
NotStarted sim_nodes n NoSuchNode = HasNo sim_nodes n
NotStarted sim_nodes n _ = ⊥

-- the node must be up, and the world must have room for what it sends
abbrev pub NoStep : {R : Type 0} → List (SimNode R) → List Datagram → ℕ → Refused → Type 0
NoStep sim_nodes sent n NoSuchNode = HasNo sim_nodes n
NoStep sim_nodes sent n NotUp = IsDown sim_nodes n
NoStep sim_nodes sent n WorldFull = IsUp sim_nodes n × IsFull sent
NoStep sim_nodes sent n _ = ⊥

-- a Start: the node was started before, or 16 nodes were
abbrev pub NoStart : {R : Type 0} → List (SimNode R) → ℕ → Refused → Type 0
NoStart sim_nodes n AlreadyUp = IsStarted sim_nodes n
NoStart sim_nodes n WorldFull = HasNo sim_nodes n × (16 ≤ length sim_nodes)
NoStart sim_nodes n _ = ⊥

-- a client's request: its node must have been started, and the world must have room
abbrev pub NoClient : {R : Type 0} → List (SimNode R) → List Datagram → ℕ → Refused → Type 0
NoClient sim_nodes sent n NoSuchNode = HasNo sim_nodes n
NoClient sim_nodes sent n WorldFull = IsStarted sim_nodes n × IsFull sent
NoClient sim_nodes sent n _ = ⊥

-- a datagram must be addressed to a node that can take it; none is delivered to a client
abbrev pub NoneBound : {R : Type 0} → List (SimNode R) → List Datagram → Party → Refused → Type 0
NoneBound sim_nodes sent (party.Node n) e = NoStep sim_nodes sent n e
NoneBound sim_nodes sent (party.Client c) e = e ≡ NoSuchDatagram

-- the datagram must exist, and be deliverable
abbrev pub NoDelivery : {R : Type 0} → List (SimNode R) → List Datagram → Option Datagram → Refused → Type 0
NoDelivery sim_nodes sent None e = e ≡ NoSuchDatagram
NoDelivery sim_nodes sent (Some d) e = NoneBound sim_nodes sent d.to e

-- injected bytes: the node must be up, and they must not be a node's datagram
abbrev pub NoInjection : {R : Type 0} → List (SimNode R) → List Datagram → ℕ → List ℕ → Refused → Type 0
NoInjection sim_nodes sent n bytes NoSuchNode = HasNo sim_nodes n
NoInjection sim_nodes sent n bytes NotUp = IsDown sim_nodes n
NoInjection sim_nodes sent n bytes Forged = IsUp sim_nodes n × IsForged bytes
NoInjection sim_nodes sent n bytes WorldFull = IsUp sim_nodes n × (IsForged bytes → ⊥) × IsFull sent
NoInjection sim_nodes sent n bytes _ = ⊥

-- each datagram of a group must be addressed to its node
abbrev pub NoGroup : {R : Type 0} → List (SimNode R) → List Datagram → ℕ → List GroupInput → Refused → Type 0
NoGroup sim_nodes sent n group_inputs NoSuchNode = HasNo sim_nodes n
NoGroup sim_nodes sent n group_inputs NotUp = IsDown sim_nodes n
NoGroup sim_nodes sent n group_inputs NoSuchDatagram = IsUp sim_nodes n × (AreFor sent n group_inputs → ⊥)
NoGroup sim_nodes sent n group_inputs WorldFull = IsUp sim_nodes n × AreFor sent n group_inputs × IsFull sent
NoGroup sim_nodes sent n group_inputs _ = ⊥

-- the event is rejected for this reason, and not because memory ran out
abbrev pub IsRejectedFor : {R : Type 0} → WorldState R → Event → Refused → Type 0
IsRejectedFor w (event.Start n) e = NoStart w.sim_nodes n e
IsRejectedFor w (event.Restart n) e = NoRestart w.sim_nodes n e
IsRejectedFor w (event.Tick n) e = NoStep w.sim_nodes w.sent n e
IsRejectedFor w (event.Nudge n reason) e = NoStep w.sim_nodes w.sent n e
IsRejectedFor w (event.Compact n) e = NoneUp w.sim_nodes n e
IsRejectedFor w (event.Client n r) e = NoClient w.sim_nodes w.sent n e
IsRejectedFor w (event.Deliver k) e = NoDelivery w.sim_nodes w.sent (datagram_at w.sent k) e
IsRejectedFor w (event.Group n group_inputs) e = NoGroup w.sim_nodes w.sent n group_inputs.items e
IsRejectedFor w (event.Inject n bytes) e = NoInjection w.sim_nodes w.sent n bytes.items e
IsRejectedFor w (event.Stop n x y) e = NoneUp w.sim_nodes n e
IsRejectedFor w (event.FailAt n count) e = NotStarted w.sim_nodes n e
IsRejectedFor w (event.Arm n count bytes) e = NotStarted w.sim_nodes n e

-- ---- what is not rejected for it

-- the node is up, and the world has room
abbrev pub MayStep : {R : Type 0} → WorldState R → ℕ → Type 0
MayStep w n = IsUp w.sim_nodes n × HasRoom w.sent

-- the datagram at this place is addressed to a node that may take it
abbrev pub MayDeliver : {R : Type 0} → WorldState R → ℕ → Type 0
MayDeliver w k = (d : Datagram) × (n : ℕ) × (datagram_at w.sent k ≡ Some d) × (d.to ≡ party.Node n) × MayStep w n

-- the node may take a step, and each datagram of the group is addressed to it
abbrev pub MayGroup : {R : Type 0} → WorldState R → ℕ → List GroupInput → Type 0
MayGroup w n group_inputs = MayStep w n × AreFor w.sent n group_inputs

-- the node may take a step, and the bytes are none that only a node sends
abbrev pub MayInject : {R : Type 0} → WorldState R → ℕ → List ℕ → Type 0
MayInject w n bytes = MayStep w n × (IsForged bytes → ⊥)

-- the event is rejected for no reason but running out of memory
abbrev pub IsPermitted : {R : Type 0} → WorldState R → Event → Type 0
IsPermitted w (event.Start n) = HasNo w.sim_nodes n × (length w.sim_nodes < 16)
IsPermitted w (event.Restart n) = IsDown w.sim_nodes n
IsPermitted w (event.Tick n) = MayStep w n
IsPermitted w (event.Nudge n reason) = MayStep w n
IsPermitted w (event.Compact n) = IsUp w.sim_nodes n
IsPermitted w (event.Client n r) = IsStarted w.sim_nodes n × HasRoom w.sent
IsPermitted w (event.Deliver k) = MayDeliver w k
IsPermitted w (event.Group n group_inputs) = MayGroup w n group_inputs.items
IsPermitted w (event.Inject n bytes) = MayInject w n bytes.items
IsPermitted w (event.Stop n x y) = IsUp w.sim_nodes n
IsPermitted w (event.FailAt n count) = IsStarted w.sim_nodes n
IsPermitted w (event.Arm n count bytes) = IsStarted w.sim_nodes n
