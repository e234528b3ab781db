-- What may be done in a world, and why a schedule stops before its end.
use Rattle.std.specs.Prelude.{◌≡◌, ℕ, List, Some, Contains}
use Rattle.lk_messages.specs.Grammar.{spelling}
use Rattle.lk_messages.specs.declared.message.Message.{Message}
use Rattle.lk_agreement_laws.specs.Datagrams.{Datagram}
use Rattle.lk_agreement_laws.specs.declared.party.Party.TheVariants as party
use Rattle.lk_sim.specs.Refusals.{datagram_at, IsFull, IsRejectedFor}
use Rattle.lk_sim.specs.WorldStates.{WorldState}
use Rattle.lk_sim.specs.declared.event.Event.{Event}
use Rattle.lk_sim_nodes.specs.SimNodes.{IsUp}
use Rattle.lk_sim_nodes.specs.declared.refused.Refused.{Refused}
use Rattle.lk_sim_nodes.specs.declared.refused.Refused.TheVariants.{WorldFull}
use Rattle.lk_healing.specs.declared.halt.Halt.{Halt}
use Rattle.lk_healing.specs.declared.halt.Halt.TheVariants as halt

-- ---- why it stops

-- memory ran out, more than 99,000 datagrams were sent, or the last event has ended a node like this
abbrev pub HaltsFor : {R : Type 0} → Halt → WorldState R → Type 0
HaltsFor halt.NoMemory w = Unit {0}
HaltsFor halt.Full w = IsFull w.sent
HaltsFor (halt.Ended e) w = w.ended ≡ Some e

-- ---- what may be done

-- whatever rejects the event, it is that the world is full
abbrev pub NeedsRoomAlone : {R : Type 0} → WorldState R → Event → Type 0
NeedsRoomAlone w e = (r : Refused) → IsRejectedFor w e r → (r ≡ WorldFull) × IsFull w.sent

-- the datagram at this place is addressed to a node that is up
abbrev pub MayBeTaken : {R : Type 0} → WorldState R → ℕ → Type 0
MayBeTaken w k = (d : Datagram) × (n : ℕ) × (datagram_at w.sent k ≡ Some d) × (d.to ≡ party.Node n) × IsUp w.sim_nodes n

-- ---- datagrams

-- the datagram at this place has these bytes and is addressed to the node
abbrev pub IsAddressed : List Datagram → ℕ → ℕ → List ℕ → Type 0
IsAddressed sent k n bytes =
    (d : Datagram) × (datagram_at sent k ≡ Some d) × (d.to ≡ party.Node n) × (d.bytes ≡ bytes)

-- there is none
abbrev pub NoneIsAddressed : List Datagram → ℕ → List ℕ → Type 0
NoneIsAddressed sent n bytes = (d : Datagram) → Contains sent d → d.to ≡ party.Node n → d.bytes ≡ bytes → ⊥

-- the message was sent to the node, by whomever
abbrev pub IsOnItsWay : {R : Type 0} → WorldState R → ℕ → Message → Type 0
IsOnItsWay w n x = (d : Datagram) × Contains w.sent d × (d.to ≡ party.Node n) × (d.bytes ≡ spelling x)

-- each of these nodes is up, and the message was sent to it
abbrev pub AreOnTheirWay : {R : Type 0} → WorldState R → List ℕ → Message → Type 0
AreOnTheirWay w nodes x = (n : ℕ) → Contains nodes n → IsUp w.sim_nodes n × IsOnItsWay w n x
