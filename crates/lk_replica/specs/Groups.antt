-- A node in the middle of a group: it has taken some inputs and written their entries unsynced, and nothing of what it
-- said is sent.
use Rattle.std.specs.Prelude.{◌≡◌, ℕ, ◌+◌, ◌<◌, ◌||◌, Bool, true, false, not, if◌then◌else◌, List, [], ◌∷◌, ◌++◌}
use Rattle.std.specs.Prelude.{length, Contains}
use Rattle.std.specs.List.{AllByRecursion}
use Rattle.lk_types.specs.declared.entry.Entry.{Entry}
use Rattle.lk_disk.specs.Disk.{Disk, contents, fully_synced}
use Rattle.lk_disk.specs.declared.device.Side.{Side}
use Rattle.lk_disk.specs.Meters.{CallsSucceed}
use Rattle.lk_log.specs.Causes.{put_calls, rebase_calls}
use Rattle.lk_store_format.specs.Entries.{plain}
use Rattle.lk_store_format.specs.Standings.{HasHeader, StandsFor, with_all}
use Rattle.lk_store_format.specs.Values.{HeaderValue, StandingValue}
use Rattle.lk_store_format.specs.declared.stored.Stored.{Stored}
use Rattle.lk_log.specs.Rooms.{StaysWithin}
use Rattle.lk_log.specs.StoreValue.{StoreValue, disks}
use Rattle.lk_log.specs.Stores.{HoldsEntries, KeepsItsFile}
use Rattle.lk_state.specs.Meanings.{Meaning}
use Rattle.lk_messages.specs.Grammar.{Spells}
use Rattle.lk_agreement_laws.specs.Acceptors.{AcceptorState}
use Rattle.lk_agreement_laws.specs.Datagrams.{NodeMessage, said_by}
use Rattle.lk_node_interface.specs.Envelopes.{EnvelopeValue, batch_of}
use Rattle.lk_node_interface.specs.Outboxes.{OutboxValue}
use Rattle.lk_node_interface.specs.declared.input.Input.{Input}
use Rattle.lk_node_interface.specs.declared.note.Note.{Note}
use Rattle.lk_node.specs.Steps.{Steps}
use Rattle.lk_types.specs.Limits.{max_count}
use Rattle.lk_recovery.specs.Compacting.{CallsWhereDue, IsDue, Rebases, RebasesWhereDue}
use Rattle.lk_node_interface.specs.Faults.{failures_by, RefusedAfter, IsNumberOfCalls}
use Rattle.lk_replica.specs.Posts.{AreOf}
use Rattle.lk_recovery.specs.Rooms.{GrowsByStep, GrowsFromBase, max_after}
use Rattle.lk_replica.specs.ReplicaValue.{ReplicaValue}
use Rattle.lk_node.specs.Calls.{InputFits, NodeFits, LeavesFit}
use Rattle.lk_node.specs.Entries.{Rests}
use Rattle.lk_node.specs.Histories.{History, Genesis, Datagram}
use Rattle.lk_node.specs.Holdings.{Holding}
use Rattle.lk_node.specs.Keeping.{IsDecidedEntry, IsKnown, IsHeld, ReplicaHolds}
use Rattle.lk_node.specs.Leavings.{header_of, acceptor_of, DisksFit, AllCover}
use Rattle.lk_node.specs.NodeValue.{NodeValue}
use Rattle.lk_node.specs.Reaching.{EntriesLieNear, RestoresNode}
use Rattle.lk_node.specs.SafeSteps.{with_entries}

-- the store, with all bytes of its live file synced
abbrev pub as_synced : StoreValue → StoreValue
as_synced s = record s { live_disk = fully_synced s.live_disk }

-- the store as it will be when the group's envelopes are sent: synced, if something waits for that
abbrev pub synced_if : Bool → StoreValue → StoreValue
synced_if true s = as_synced s
synced_if false s = s

-- whether something waits for a sync after one more step: a Base holds everything, and is synced
abbrev pub needs_sync_after : Bool → OutboxValue → Bool
needs_sync_after needs_sync out = if out.rebase then false else (needs_sync || out.sync)

-- The store is that of this header, and its entries, synced or not, stand for what the acceptor holds. If nothing
-- waits for a sync, the unsynced ones are decided commands.
pub record StoreKeepsInGroup (whose : HeaderValue) (store : StoreValue) (needs_sync : Bool)
    (acceptor : AcceptorState) : Type 0 where
  pub entries : List Stored
  pub loose : List Entry
  pub holds : HoldsEntries store entries (plain loose)
  pub decided : needs_sync ≡ false → AllByRecursion IsDecidedEntry loose
  pub header : HasHeader entries whose
  pub standing : StandingValue
  pub stands : StandsFor entries standing
  pub remembers : with_entries loose (acceptor_of standing) ≡ acceptor

-- the replica, by its parts, is that of the node in the cluster with this genesis, and its store has what its acceptor
-- holds
pub record RemembersInGroup (node : NodeValue) (store : StoreValue) (needs_sync : Bool)
    (genesis : Genesis) (n : ℕ) : Type 0 where
  pub whose : node.header ≡ header_of genesis n
  pub keeps : StoreKeepsInGroup (header_of genesis n) store needs_sync node.acceptor.state

-- it is, and holds this; its store tells what the node has executed, and if nothing waits for a sync, all of it lies
-- near
pub record HoldsInGroup (m : Meaning) (node : NodeValue) (store : StoreValue) (needs_sync : Bool) (genesis : Genesis)
    (n : ℕ) (x : Holding) : Type 0 where
  pub whose : node.header ≡ header_of genesis n
  pub keeps : StoreKeepsInGroup (header_of genesis n) store needs_sync node.acceptor.state
  pub known : needs_sync ≡ false → AllByRecursion (IsKnown x.paxos) keeps.loose
  pub held : IsHeld m node genesis x
  pub tells : RestoresNode genesis.alpha (with_all keeps.loose keeps.standing) node
  pub near : needs_sync ≡ false → EntriesLieNear genesis.alpha keeps.standing keeps.loose

-- in this history, which contains what the group has said so far, the node fits as if everything that waits were
-- synced
abbrev pub GroupFits : Meaning → History → ℕ → NodeValue → StoreValue → Bool → Type 0
GroupFits m h n node store needs_sync =
    NodeFits m h n (HoldsInGroup m node store needs_sync h.genesis n) (disks (synced_if needs_sync store))

-- the effect of a step of a group with these envelopes
abbrev pub GroupLeavesFit : Meaning → History → ℕ → NodeValue → StoreValue → Bool → List Note → List Datagram → Type 0
GroupLeavesFit m h n node store needs_sync notes batch =
    LeavesFit m h n (HoldsInGroup m node store needs_sync h.genesis n) (disks
    (synced_if needs_sync store)) notes batch

-- what a caller sees of both: the node fits in what it holds and has on its disks once everything that waits is synced,
-- and goes on from there
abbrev pub FitsOnceSynced : Meaning → History → ℕ → NodeValue → StoreValue → Bool → Type 0
FitsOnceSynced m h n node store needs_sync =
    NodeFits m h n (ReplicaHolds m node (synced_if needs_sync store) h.genesis n) (disks
    (synced_if needs_sync store))

abbrev pub LeavesFitOnceSynced : Meaning → History → ℕ → NodeValue → StoreValue → Bool → List Note → List Datagram
    → Type 0
LeavesFitOnceSynced m h n node store needs_sync notes batch =
    LeavesFit m h n (ReplicaHolds m node (synced_if needs_sync store) h.genesis n)
    (disks (synced_if needs_sync store)) notes batch

-- in this history, which contains nothing of what the group has said, the node fits, what it has written rests on what
-- was sent and lies near, and whatever a stop may leave of the files as they are fits
pub record GroupStays (m : Meaning) (h : History) (n : ℕ) (node : NodeValue) (store : StoreValue)
    (needs_sync : Bool) : Type 0 where
  pub fits : GroupFits m h n node store needs_sync
  pub rests : AllByRecursion (Rests h) fits.shown.keeps.loose
  pub near : EntriesLieNear h.genesis.alpha fits.shown.keeps.standing fits.shown.keeps.loose
  pub left : DisksFit m h n (disks store)

-- the effect of a sync, if something waits for it
abbrev pub SyncsIfNeeded : Bool → StoreValue → StoreValue → Type 0
SyncsIfNeeded true old new = (ks ls : List Stored) → HoldsEntries old ks ls → HoldsEntries new (ks ++ ls) []
SyncsIfNeeded false old new = new ≡ old

-- the notes and the envelopes of a group so far, in order, whether something that it has written waits for a sync, and
-- whether something may wait for a flush: not after a Base, which is synced
pub record GroupValue : Type 0 where
  pub notes : List Note
  pub envelopes : List EnvelopeValue
  pub needs_sync : Bool
  pub needs_flush : Bool

-- a group that begins
abbrev pub empty_group : GroupValue
empty_group = record { notes = []; envelopes = []; needs_sync = false; needs_flush = false }

-- a group that has taken nothing, while something waits for a sync or not
abbrev pub group_that : Bool → GroupValue
group_that needs_sync = record empty_group { needs_sync = needs_sync }

-- the group with one more step
abbrev pub with_step : Bool → OutboxValue → GroupValue → GroupValue
with_step needs_sync out g =
    record {
      notes = g.notes ++ out.notes;
      envelopes = g.envelopes ++ out.envelopes;
      needs_sync = needs_sync_after needs_sync out;
      needs_flush = not out.rebase;
    }

-- a step has added these notes and envelopes
pub record Adds (old new : GroupValue) (Are : List Note → List EnvelopeValue → Type 0) : Type 0 where
  pub notes : List Note
  pub envelopes : List EnvelopeValue
  pub noted : new.notes ≡ old.notes ++ notes
  pub said : new.envelopes ≡ old.envelopes ++ envelopes
  pub are : Are notes envelopes

-- once everything that waits is synced, everything that the group has said is covered
abbrev pub IsGroupCovered : Meaning → Genesis → ℕ → GroupValue → StoreValue → Type 0
IsGroupCovered m genesis n g s =
    (x : NodeMessage) (d : Datagram) → Contains (batch_of n g.envelopes) d → Spells (said_by genesis n x) d.bytes
    → AllCover m genesis n (disks (synced_if g.needs_sync s)) x

-- What a call leaves on the disks in the middle of a group, however it ends: if the history has the call's input, each
-- image that a stop may leave fits the earlier history, in which nothing of the group is sent; each covers what every
-- image covered; and neither file has grown, except up to this many bytes.
pub record LeavesInGroup (m : Meaning) (Heard : History → Type 0) (most : ℕ) (node : NodeValue) (store : StoreValue)
    (needs_sync : Bool) (after : Side → Disk) : Type 0 where
  pub ends : (h : History) (n : ℕ) → GroupStays m h n node store needs_sync → Heard h → DisksFit m h n after
  pub covers : (genesis : Genesis) (n : ℕ) (x : NodeMessage) → RemembersInGroup node store needs_sync genesis n
      → AllCover m genesis n (disks store) x → AllCover m genesis n after x
  pub room : StaysWithin most (disks store) after

-- what making room preserves in a group: in a history, the node fits as before; its store has what its acceptor holds;
-- and whatever was covered once everything that waits is synced is so still
pub record RoomKeepsGroup (m : Meaning) (node : NodeValue) (store : StoreValue) (needs_sync : Bool)
    (new : NodeValue) (after : StoreValue) (waits : Bool) : Type 0 where
  pub fits : (h : History) (n : ℕ) → GroupFits m h n node store needs_sync → GroupFits m h n new after waits
  pub stays : (h : History) (n : ℕ) → GroupStays m h n node store needs_sync → GroupStays m h n new after waits
  pub recalls : (genesis : Genesis) (n : ℕ) → RemembersInGroup node store needs_sync genesis n
      → RemembersInGroup new after waits genesis n
  pub still : (genesis : Genesis) (n : ℕ) (x : NodeMessage) → RemembersInGroup node store needs_sync genesis n
      → AllCover m genesis n (disks (synced_if needs_sync store)) x
      → AllCover m genesis n (disks (synced_if waits after)) x

-- What a step preserves in a group: in a history in which nothing of the group is sent, the node still fits; its store
-- has what its acceptor holds; and everything that the group has said is covered once everything that waits is synced.
pub record KeepsGroup (m : Meaning) (Heard : History → Type 0) (node : NodeValue) (store : StoreValue)
    (group : GroupValue) (new : NodeValue) (after : StoreValue) (now : GroupValue) : Type 0 where
  pub stays : (h : History) (n : ℕ) → GroupStays m h n node store group.needs_sync → Heard h
      → GroupStays m h n new after now.needs_sync
  pub recalls : (genesis : Genesis) (n : ℕ) → RemembersInGroup node store group.needs_sync genesis n
      → RemembersInGroup new after now.needs_sync genesis n
  pub said : (genesis : Genesis) (n : ℕ) → RemembersInGroup node store group.needs_sync genesis n
      → IsGroupCovered m genesis n group store → IsGroupCovered m genesis n now after

-- what a step of a group leaves on the disks, however it ends: as `LeavesInGroup`, with two differences. The files have
-- their bound only if the live one was shorter than what makes a rebase due, and each grows by at most one step, unless
-- a Base was written to it
pub record StepLeavesInGroup (m : Meaning) (Heard : History → Type 0) (most : ℕ) (node : NodeValue)
    (store : StoreValue) (needs_sync : Bool) (after : Side → Disk) : Type 0 where
  pub ends : (h : History) (n : ℕ) → GroupStays m h n node store needs_sync → Heard h → DisksFit m h n after
  pub covers : (genesis : Genesis) (n : ℕ) (x : NodeMessage) → RemembersInGroup node store needs_sync genesis n
      → AllCover m genesis n (disks store) x → AllCover m genesis n after x
  pub room : length (contents store.live_disk) < 131072 → StaysWithin most (disks store) after
  pub grows : GrowsFromBase (disks store) after

-- What a step with this outbox guarantees. goes: in each history that contains what the group has said so far, it is
-- permitted its notes and envelopes. stays: in each that contains nothing of it, the node still fits. recalls: its
-- store has what its acceptor holds. syncs: once everything that waits is synced, the step's envelopes are covered.
-- still: and so is whatever was covered.
pub record StepKeepsGroup (m : Meaning) (Heard : History → Type 0) (node : NodeValue) (store : StoreValue)
    (needs_sync : Bool) (out : OutboxValue) (new : NodeValue) (after : StoreValue) : Type 0 where
  pub goes : (h : History) (n : ℕ) → GroupFits m h n node store needs_sync → Heard h
      → (sent : List EnvelopeValue) → AreOf sent out.envelopes
      → GroupLeavesFit m h n new after (needs_sync_after needs_sync out) out.notes (batch_of n sent)
  pub stays : (h : History) (n : ℕ) → GroupStays m h n node store needs_sync → Heard h
      → GroupStays m h n new after (needs_sync_after needs_sync out)
  pub recalls : (genesis : Genesis) (n : ℕ) → RemembersInGroup node store needs_sync genesis n
      → RemembersInGroup new after (needs_sync_after needs_sync out) genesis n
  pub syncs : (genesis : Genesis) (n : ℕ) (x : NodeMessage) → RemembersInGroup node store needs_sync genesis n
      → (d : Datagram) → Contains (batch_of n out.envelopes) d → Spells (said_by genesis n x) d.bytes
      → AllCover m genesis n (disks (synced_if (needs_sync_after needs_sync out) after)) x
  pub still : (genesis : Genesis) (n : ℕ) (x : NodeMessage) → RemembersInGroup node store needs_sync genesis n
      → AllCover m genesis n (disks (synced_if needs_sync store)) x
      → AllCover m genesis n (disks (synced_if (needs_sync_after needs_sync out) after)) x

-- ---- what the steps of a group have done, and nothing else

-- how many changing calls of the device the sync takes
abbrev pub sync_calls : Bool → ℕ
sync_calls needs_sync = if needs_sync then 1 else 0

-- Room was made for a step: a rebase was made if that was due, after which nothing waits for a sync. A device that
-- counts its calls (`Metered`) has had no others: what waited was not synced first.
pub record MakesRoom (Metered : Type 0) (node : NodeValue) (store : StoreValue) (needs_sync : Bool) (new : NodeValue)
    (after : StoreValue) (still : Bool) : Type 0 where
  pub rebases : RebasesWhereDue node store new after
  pub synced : IsDue node store → still ≡ false
  pub rests : (IsDue node store → ⊥) → still ≡ needs_sync
  pub calls : Metered → (k : ℕ) × CallsWhereDue node store k × CallsSucceed store.meter after.meter k

-- how many calls a step writes by: those of its entries, unsynced, or of a Base
abbrev pub add_step_calls : OutboxValue → ℕ
add_step_calls out = if out.rebase then rebase_calls else put_calls out.entries false

-- the outbox's entries follow what the store held, and nothing more is synced
abbrev pub Appends : StoreValue → OutboxValue → StoreValue → Type 0
Appends old out new = (ks ls : List Stored) → HoldsEntries old ks ls → HoldsEntries new ks (ls ++ plain out.entries)

-- a step was taken, and what its outbox says is written, unsynced, by which neither file grows by more than a step, and
-- the same one stays live; in the calls that this takes of a device that counts them (`Metered`)
pub record StepsToFile (m : Meaning) (IsText : List ℕ → Type 0) (Metered : Type 0) (node : NodeValue)
    (store : StoreValue) (i : Input) (out : OutboxValue) (new : NodeValue) (after : StoreValue) : Type 0 where
  pub stepped : NodeValue
  pub steps : Steps m IsText node i stepped out
  pub rebases : out.rebase ≡ true → Rebases stepped store new after
  pub puts : out.rebase ≡ false → (new ≡ stepped) × Appends store out after
  pub grows : out.rebase ≡ false → GrowsByStep (disks store) (disks after)
  pub file : out.rebase ≡ false → KeepsItsFile store after
  pub calls : Metered → CallsSucceed store.meter after.meter (add_step_calls out)

-- One more input of a group was taken: room was made for it, a step was taken, and its outbox is written, unsynced; its
-- notes and envelopes follow those of the steps before it, the group waits for a sync exactly if something that it has
-- written does, and nothing else was done.
pub record IsGathered (m : Meaning) (IsText : List ℕ → Type 0) (Metered : Type 0) (node : NodeValue)
    (store : StoreValue) (before : GroupValue) (i : Input) (new : NodeValue) (after : StoreValue)
    (now : GroupValue) : Type 0 where
  pub mid : NodeValue
  pub between : StoreValue
  pub needs_sync : Bool
  pub room : MakesRoom Metered node store before.needs_sync mid between needs_sync
  pub out : OutboxValue
  pub steps : StepsToFile m IsText Metered mid between i out new after
  pub adds : now ≡ with_step needs_sync out before

-- What waited for a sync is synced, in one call, and nothing else was done.
pub record IsGroupSynced (Metered : Type 0) (old : ReplicaValue) (needs_sync : Bool) (new : ReplicaValue) : Type 0 where
  pub lived : old.failed ≡ false
  pub node : new.node ≡ old.node
  pub syncs_all : SyncsIfNeeded needs_sync old.store new.store
  pub calls : Metered → CallsSucceed old.store.meter new.store.meter (sync_calls needs_sync)
  pub store_alive : old.store.failed ≡ false → new.store.failed ≡ false

-- A call of a group failed with the fault of this number, as one of `take` does (`IsRefused`), and has ended the
-- replica: nothing of the group is sent. The clause `disks` says what the files then have.
pub record IsRefusedInGroup (Honest Metered : Type 0) (old new : ReplicaValue) (number : ℕ) : Type 0 where
  pub told : IsNumberOfCalls number
  pub no_send : number ≡ 15 → ⊥
  pub failures : new.store.failures ≡ failures_by number old.store.failures
  pub calls : Metered → Honest → RefusedAfter number old.store.meter new.store.meter
  pub earlier : number ≡ 11 → old.failed ≡ false → old.store.failed ≡ false → old.store.generation + 1 < max_count → ⊥
  pub second : Honest → number ≡ 11 → old.failed ≡ false → old.store.failed ≡ false → old.store.generation < max_count
      → IsDue old.node old.store
  pub once : old.failed ≡ true → (number ≡ 11) × (new ≡ old)
  pub ends : new.failed ≡ true
  pub halts : number ≡ 14 → new.node.halted ≡ true
  pub awake : old.node.halted ≡ false → (number ≡ 14 → ⊥) → new.node.halted ≡ false

-- ---- a whole group

-- the notes and the envelopes of a step of a group
abbrev pub StepSaid : Type 0
StepSaid = List Note × List EnvelopeValue

-- everything that the steps said
abbrev pub envelopes_of : List StepSaid → List EnvelopeValue
envelopes_of [] = []
envelopes_of (x ∷ xs) = x.1 ++ envelopes_of xs

-- The replica took these inputs one after another: in each history that it fits, and that contains what it said
-- before, it goes on at each of them, as in a call of `take`, whichever of its envelopes are sent; and at the end it is
-- as it would be. Each `mid` is the replica as it will be once everything that it has written is synced.
abbrev pub GoesThrough : Meaning → ℕ → ReplicaValue → List Input → ReplicaValue → List StepSaid → Type 0
GoesThrough m n r [] q said =
    (said ≡ []) × ((h : History) → NodeFits m h n (ReplicaHolds m r.node r.store h.genesis n) (disks r.store)
    → NodeFits m h n (ReplicaHolds m q.node q.store h.genesis n) (disks q.store))
    × StaysWithin max_after (disks r.store) (disks q.store)
GoesThrough m n r (i ∷ is) q said =
    (mid : ReplicaValue) × (notes : List Note) × (envelopes : List EnvelopeValue) × (rest : List StepSaid)
    × (said ≡ (notes, envelopes) ∷ rest)
    × ((h : History) → NodeFits m h n (ReplicaHolds m r.node r.store h.genesis n) (disks r.store) → InputFits h i
    → (sent : List EnvelopeValue) → AreOf sent envelopes
    → LeavesFit m h n (ReplicaHolds m mid.node mid.store h.genesis n) (disks mid.store) notes (batch_of n sent))
    × StaysWithin max_after (disks r.store) (disks mid.store)
    × GoesThrough m n mid is q rest
