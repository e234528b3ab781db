-- The envelopes of a replica for the input of a group: it takes all of it, one after another, and syncs once, before it
-- sends anything.
use Rattle.std.specs.Prelude.{◌≡◌, ◌≢◌, ◌⊎◌, ℕ, true, false, List, [], ◌∷◌, ◌++◌, length, map, Option, Contains}
use Rattle.std.specs.List.{AllByRecursion}
use Rattle.lk_disk.specs.Disk.{Disk}
use Rattle.lk_disk.specs.Meters.{CallsSucceed}
use Rattle.lk_disk.specs.declared.device.Side.{Side}
use Rattle.lk_messages.specs.Grammar.{Spells}
use Rattle.lk_state.specs.Meanings.{Meaning}
use Rattle.lk_agreement_laws.specs.Datagrams.{NodeMessage, said_by}
use Rattle.lk_log.specs.Rooms.{StaysWithin}
use Rattle.lk_log.specs.StoreValue.{StoreValue, disks}
use Rattle.lk_node_interface.specs.Envelopes.{EnvelopeValue, batch_of}
use Rattle.lk_node_interface.specs.declared.input.Input.{Input}
use Rattle.lk_node.specs.Calls.{heard_by, InputFits, NodeFits}
use Rattle.lk_node.specs.Histories.{History, Genesis, Datagram}
use Rattle.lk_node.specs.Keeping.{ReplicaHolds}
use Rattle.lk_node.specs.Leavings.{DisksFit, AllCover}
use Rattle.lk_node.specs.NodeValue.{NodeValue}
use Rattle.lk_replica.specs.Groups.{GroupValue, StepSaid, envelopes_of, IsGathered, GoesThrough, empty_group}
use Rattle.lk_replica.specs.Groups.{GroupStays, IsGroupCovered}
use Rattle.lk_replica.specs.Groups.{RemembersInGroup, SyncsIfNeeded, synced_if, sync_calls}
use Rattle.lk_recovery.specs.Remembering.{ReplicaRemembers}
use Rattle.lk_replica.specs.ReplicaValue.{ReplicaValue}
use Rattle.lk_recovery.specs.Rooms.{GrowsBySteps, max_after}

-- these inputs were taken into a group one after another, and this is what each step noted and said; each made the
-- calls that it takes of a device that counts them (`Metered`)
abbrev pub AreGathered : Meaning → (List ℕ → Type 0) → Type 0 → NodeValue → StoreValue → GroupValue → List Input
    → List StepSaid → NodeValue → StoreValue → GroupValue → Type 0
AreGathered m IsText Metered node store group [] said new after now =
    (said ≡ []) × (new ≡ node) × (after ≡ store) × (now ≡ group)
AreGathered m IsText Metered node store group (i ∷ inputs) said new after now =
    (mid : NodeValue) × (between : StoreValue) × (gathered : GroupValue)
    × (taken : IsGathered m IsText Metered node store group i mid between gathered)
    × (rest : List StepSaid) × (said ≡ (taken.out.notes, taken.out.envelopes) ∷ rest)
    × AreGathered m IsText Metered mid between gathered inputs rest new after now

-- a replica has taken these inputs as one group, one after another, each with these notes and envelopes; then it has
-- synced once what waited for that, and has done nothing else. It goes on
pub record IsGroupTaken (m : Meaning) (IsText : List ℕ → Type 0) (Metered : Type 0) (old : ReplicaValue)
    (inputs : List Input) (said : List StepSaid) (new : ReplicaValue) : Type 0 where
  pub node : NodeValue
  pub store : StoreValue
  pub group : GroupValue
  pub steps : AreGathered m IsText Metered old.node old.store empty_group inputs said node store group
  pub same : new.node ≡ node
  pub syncs_all : SyncsIfNeeded group.needs_sync store new.store
  pub calls : Metered → CallsSucceed store.meter new.store.meter (sync_calls group.needs_sync)
  pub alive : new.failed ≡ false
  pub store_alive : inputs ≢ [] → new.store.failed ≡ false
  pub awake : inputs ≢ [] → new.node.halted ≡ false

-- a replica has taken its input as a group, and these are the envelopes of the steps. Each step is permitted its notes
-- and envelopes by what the replica then holds, once the envelopes of the earlier steps are sent; and every image that
-- a stop may leave covers all of them: they were synced before they were sent
pub record SaysByGroup (m : Meaning) (IsText : List ℕ → Type 0) (Metered : Type 0) (old : ReplicaValue)
    (given : List (Option (List ℕ))) (envelopes : List EnvelopeValue) (new : ReplicaValue) : Type 0 where
  pub inputs : List Input
  pub are_given : map heard_by inputs ≡ given
  pub said : List StepSaid
  pub are_said : envelopes ≡ envelopes_of said
  pub taken : IsGroupTaken m IsText Metered old inputs said new
  pub goes : (genesis : Genesis) (k : ℕ) → ReplicaRemembers old.node old.store genesis k → (n : ℕ)
      → GoesThrough m n old inputs new said
  pub syncs : (genesis : Genesis) (n : ℕ) (x : NodeMessage) → ReplicaRemembers old.node old.store genesis n
      → (d : Datagram) → Contains (batch_of n envelopes) d → Spells (said_by genesis n x) d.bytes
      → AllCover m genesis n (disks new.store) x

-- the group was rejected: it sends nothing, and the replica has ended
pub record IsSilenced (envelopes : List EnvelopeValue) (new : ReplicaValue) : Type 0 where
  pub none : envelopes ≡ []
  pub ended : new.failed ≡ true

-- what a group leaves on the disks, however it ends: where the history has all that it was given, each image that a
-- stop may leave fits the history as it was; each covers what every image covered; and neither file is longer than it
-- was, or else than so many bytes, nor has it grown by more than so many steps apart from a Base
pub record GroupLeaves (m : Meaning) (Heard : History → Type 0) (most steps : ℕ) (node : NodeValue)
    (store : StoreValue) (after : Side → Disk) : Type 0 where
  pub ends : (h : History) (n : ℕ) → NodeFits m h n (ReplicaHolds m node store h.genesis n) (disks store)
      → Heard h → DisksFit m h n after
  pub covers : (genesis : Genesis) (n : ℕ) (x : NodeMessage) → ReplicaRemembers node store genesis n
      → AllCover m genesis n (disks store) x → AllCover m genesis n after x
  pub room : StaysWithin most (disks store) after
  pub grows : GrowsBySteps steps (disks store) after

-- the effect of a group, taken (`SaysByGroup`) or rejected (`IsSilenced`). However it ends, whatever a stop may leave
-- of the disks fits, covers what every image covered before, and is not long. A replica that a call has ended does not
-- change
pub record SaysOf (m : Meaning) (IsText : List ℕ → Type 0) (Metered : Type 0) (old : ReplicaValue)
    (given : List (Option (List ℕ))) (envelopes : List EnvelopeValue) (new : ReplicaValue) : Type 0 where
  pub inputs : List Input
  pub are_given : map heard_by inputs ≡ given
  pub comes : SaysByGroup m IsText Metered old given envelopes new ⊎ IsSilenced envelopes new
  pub leaves : GroupLeaves m (λ h. AllByRecursion (InputFits h) inputs) max_after
      (length inputs) old.node old.store (disks new.store)
  pub once : old.failed ≡ true → new ≡ old

-- ---- in the middle of a group

-- The replica was in this state when the group began, and has taken this input, one after another. Whatever follows,
-- all of it goes through; once what waits for a sync is synced, everything the group says is covered; and whatever a
-- stop may leave, if nothing of the group is sent, fits
pub record GathersOf (m : Meaning) (IsText : List ℕ → Type 0) (Metered : Type 0) (start : ReplicaValue)
    (given : List (Option (List ℕ))) (group : GroupValue) (now : ReplicaValue) : Type 0 where
  pub inputs : List Input
  pub are_given : map heard_by inputs ≡ given
  pub said : List StepSaid
  pub are_said : group.envelopes ≡ envelopes_of said
  pub steps : AreGathered m IsText Metered start.node start.store empty_group inputs said now.node now.store group
  pub goes : (genesis : Genesis) (k : ℕ) → ReplicaRemembers start.node start.store genesis k
      → (n : ℕ) (more : List Input) (q : ReplicaValue) (rest : List StepSaid)
      → GoesThrough m n (record { node = now.node; store = synced_if group.needs_sync now.store; failed = false })
      more q
      rest → GoesThrough m n start (inputs ++ more) q (said ++ rest)
  pub recalls : (genesis : Genesis) (n : ℕ) → ReplicaRemembers start.node start.store genesis n
      → RemembersInGroup now.node now.store group.needs_sync genesis n × IsGroupCovered m genesis n group now.store
  pub stays : (h : History) (n : ℕ) → NodeFits m h n (ReplicaHolds m start.node start.store h.genesis n)
      (disks start.store)
      → AllByRecursion (InputFits h) inputs
      → GroupStays m h n now.node now.store group.needs_sync
  pub covers : (genesis : Genesis) (n : ℕ) (x : NodeMessage) → ReplicaRemembers start.node start.store genesis n
      → AllCover m genesis n (disks start.store) x → AllCover m genesis n (disks now.store) x
  pub room : StaysWithin max_after (disks start.store) (disks now.store)
  pub grows : GrowsBySteps (length inputs) (disks start.store) (disks now.store)
  pub up : inputs ≢ [] → (now.store.failed ≡ false) × (now.node.halted ≡ false)
  pub once : start.failed ≡ true → now ≡ start
