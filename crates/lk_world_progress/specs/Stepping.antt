-- An event of a world that goes well is a step of its node: the node does what its contract says, what it sends joins
-- the datagrams, and every other node is unchanged.
use Rattle.std.specs.Prelude.{◌≡◌, ℕ, ◌++◌, true, false, List, Some, None, Contains}
use Rattle.lk_disk.specs.Meters.{trapped}
use Rattle.lk_types.specs.declared.genesis.Genesis.{Genesis}
use Rattle.lk_agreement_laws.specs.Datagrams.{Datagram}
use Rattle.lk_agreement_laws.specs.declared.party.Party.TheVariants as party
use Rattle.lk_state.specs.Meanings.{Meaning}
use Rattle.lk_node_interface.specs.Envelopes.{batch_of}
use Rattle.lk_node_interface.specs.Outboxes.{OutboxValue}
use Rattle.lk_node_interface.specs.declared.input.Input.{Input}
use Rattle.lk_node_interface.specs.declared.input.Input.TheVariants.{Tick, Nudge, Datagram as Heard}
use Rattle.lk_node.specs.Holdings.{Holding}
use Rattle.lk_node.specs.Keeping.{ReplicaHolds}
use Rattle.lk_node.specs.NewBases.{with_snapshot}
use Rattle.lk_node.specs.NodeValue.{NodeValue}
use Rattle.lk_node.specs.Steps.{Steps}
use Rattle.lk_recovery.specs.Compacting.{IsDue}
use Rattle.lk_replica.specs.Behaviours.{Behaviour, disks_by}
use Rattle.lk_replica.specs.Compacted.{CompactsTo}
use Rattle.lk_replica.specs.ReplicaValue.{ReplicaValue, device_of}
use Rattle.lk_replica.specs.Revived.{RevivesTo}
use Rattle.lk_replica.specs.Taking.{ComesTo}
use Rattle.lk_replica.specs.Together.{ComesToAll}
use Rattle.lk_sim.specs.Events.{IsExecuted}
use Rattle.lk_sim.specs.Refusals.{datagram_at}
use Rattle.lk_sim.specs.WorldStates.{WorldState}
use Rattle.lk_sim.specs.Worlds.{KeepsInvariant}
use Rattle.lk_sim.specs.declared.event.Event.{Event}
use Rattle.lk_sim.specs.declared.event.Event.TheVariants as event
use Rattle.lk_sim_nodes.specs.declared.sim_node.RunState.{RunState}
use Rattle.lk_sim_nodes.specs.declared.sim_node.RunState.TheVariants.{Up}

-- ---- worlds of replicas

-- the results of the calls of a replica whose machine has this meaning, with disks in memory: its `behaves`
abbrev pub behaviour : Meaning → (List ℕ → Type 0) → Behaviour ReplicaValue
behaviour m IsText = record {
  memory = λ r. device_of r.store;
  with_trap = λ t r. record r { store = record r.store { meter = trapped t r.store.meter } };
  Takes = λ old i new came. ComesTo m IsText old i new came;
  TakesAll = λ old inputs new came. ComesToAll m IsText old inputs new came;
  Revives = λ device whose came. RevivesTo m IsText device whose came;
  Compacts = λ old new came. CompactsTo m old new came;
}

-- what it holds: its `Shows`
abbrev pub Shows : Meaning → ReplicaValue → Genesis → ℕ → Holding → Type 0
Shows m r genesis n x = ReplicaHolds m r.node r.store genesis n x

-- the invariant of a `World` of such replicas: the clause `keeps` of its `facts`
abbrev pub Holds : Meaning → (List ℕ → Type 0) → WorldState ReplicaValue → Type 0
Holds m IsText w = KeepsInvariant (Shows m) (disks_by (behaviour m IsText)) m w

-- the event was done, and ended no node
pub record GoesWell (m : Meaning) (IsText : List ℕ → Type 0) (old : WorldState ReplicaValue) (e : Event)
    (new : WorldState ReplicaValue) : Type 0 where
  pub before : Holds m IsText old
  pub done : IsExecuted (behaviour m IsText) old e new
  pub alive : new.ended ≡ None
  pub after : Holds m IsText new

-- the node of this number has this run state in the world
abbrev pub Lives : WorldState ReplicaValue → ℕ → RunState ReplicaValue → Type 0
Lives w n run_state = Contains w.sim_nodes (record { number = n; run_state = run_state })

-- it is up, and this is its replica
abbrev pub IsUpAs : WorldState ReplicaValue → ℕ → ReplicaValue → Type 0
IsUpAs w n r = Lives w n (Up r)

-- ---- an event as a step

-- the event gives the node this input: a tick, a nudge, a datagram that was sent to it, or bytes that no node has sent
abbrev pub Gives : WorldState ReplicaValue → Event → ℕ → Input → Type 0
Gives w (event.Tick n) k i = (k ≡ n) × (i ≡ Tick)
Gives w (event.Nudge n reason) k i = (k ≡ n) × (i ≡ Nudge reason)
Gives w (event.Deliver place) k i =
    (d : Datagram) × (datagram_at w.sent place ≡ Some d) × (d.to ≡ party.Node k) × (i ≡ Heard d.bytes)
Gives w (event.Inject n bytes) k i = (k ≡ n) × (i ≡ Heard bytes.items)
Gives w _ k i = ⊥

-- The node as the step finds it. If a rebase of its replica is due, a snapshot of everything executed has replaced the
-- votes and the commands up to there, and nothing else of it has changed. Otherwise it is the same.
pub record IsFound (r : ReplicaValue) (node : NodeValue) : Type 0 where
  pub due : IsDue r.node r.store → node ≡ with_snapshot r.node
  pub rests : (IsDue r.node r.store → ⊥) → node ≡ r.node

-- The node as the event leaves it. If the step has installed a snapshot of another node, the store was rebased to that.
-- Otherwise it is as the step left it.
pub record IsLeft (out : OutboxValue) (node : NodeValue) (r : ReplicaValue) : Type 0 where
  pub rebases : out.rebase ≡ true → r.node ≡ with_snapshot node
  pub rests : out.rebase ≡ false → r.node ≡ node

-- the node took one step on this input; its envelopes are the world's next datagrams, and every other node is unchanged
pub record TakesStep (m : Meaning) (IsText : List ℕ → Type 0) (old : WorldState ReplicaValue) (n : ℕ) (i : Input)
    (new : WorldState ReplicaValue) : Type 0 where
  pub before : ReplicaValue
  pub was : IsUpAs old n before
  pub number : before.node.header.node ≡ n
  pub start : NodeValue
  pub found : IsFound before start
  pub last : NodeValue
  pub out : OutboxValue
  pub steps : Steps m IsText start i last out
  pub after : ReplicaValue
  pub left : IsLeft out last after
  pub is : IsUpAs new n after
  pub sent : new.sent ≡ old.sent ++ batch_of n out.envelopes
  pub others : (k : ℕ) (run_state : RunState ReplicaValue) → (k ≡ n → ⊥) → Lives old k run_state → Lives new k run_state
  pub genesis : new.genesis ≡ old.genesis

-- an event that goes well and gives a node an input is a step of that node
abbrev pub EventIsStep : Meaning → (List ℕ → Type 0) → Type 0
EventIsStep m IsText = (old new : WorldState ReplicaValue) (e : Event) (n : ℕ) (i : Input) → GoesWell m IsText old e new
    → Gives old e n i → TakesStep m IsText old n i new
