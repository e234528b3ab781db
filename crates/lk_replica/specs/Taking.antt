-- What a call of `take` has done, exactly, and what it leaves on the disks, even after an error.
use Rattle.std.specs.Prelude.{◌≡◌, ℕ, ◌+◌, ◌<◌, ◌≤◌, ⊤, true, false, if◌then◌else◌, Result, Ok, Err, List, []}
use Rattle.std.specs.Prelude.{◌++◌, Bool, Contains, Vec, IfErr, IsErrAnd, OnOk}
use Rattle.std.specs.Global.{Global}
use Rattle.lk_disk.specs.Meters.{CallsSucceed}
use Rattle.lk_types.specs.Limits.{max_count}
use Rattle.lk_store_format.specs.Entries.{plain}
use Rattle.lk_store_format.specs.declared.stored.Stored.{Stored}
use Rattle.lk_log.specs.Causes.{put_calls, rebase_calls}
use Rattle.lk_log.specs.StoreValue.{StoreValue, disks}
use Rattle.lk_log.specs.Stores.{HoldsEntries, KeepsItsFile}
use Rattle.lk_state.specs.Meanings.{Meaning}
use Rattle.lk_agreement_laws.specs.Datagrams.{NodeMessage, said_by}
use Rattle.lk_messages.specs.Grammar.{Spells}
use Rattle.lk_node_interface.specs.Envelopes.{EnvelopeValue, batch_of}
use Rattle.lk_node_interface.specs.Outboxes.{OutboxValue}
use Rattle.lk_node_interface.specs.declared.input.Input.{Input}
use Rattle.lk_node_interface.specs.declared.note.Note.{Note}
use Rattle.lk_node.specs.Calls.{InputFits, NodeFits, LeavesFit}
use Rattle.lk_node.specs.Executing.{NothingToRun}
use Rattle.lk_node.specs.Histories.{Datagram, History, Genesis}
use Rattle.lk_node.specs.Keeping.{ReplicaHolds}
use Rattle.lk_node.specs.Leavings.{AllCover}
use Rattle.lk_recovery.specs.Remembering.{ReplicaRemembers}
use Rattle.lk_recovery.specs.Rooms.{GrowsByStep}
use Rattle.lk_recovery.specs.Compacting.{AreLeft, IsDue, KeepsOrSwitchesFiles, Rebases, RebasesWhereDue, CallsWhereDue}
use Rattle.lk_node_interface.specs.Faults.{fault_number, failures_by, RefusedAfter, IfGoesOn, IfSend, IfSpared}
use Rattle.lk_node_interface.specs.Faults.{IsOfCalls}
use Rattle.lk_node_interface.specs.Faults.{IsNumberOfCalls, WantsNoMemory}
use Rattle.lk_node_interface.specs.declared.fault.ReplicaFault.{ReplicaFault}
use Rattle.lk_node_interface.specs.declared.fault.ReplicaFault.TheVariants as fault
use Rattle.lk_replica.specs.ReplicaValue.{ReplicaValue}
use Rattle.lk_node.specs.NodeValue.{NodeValue}
use Rattle.lk_node.specs.Steps.{Steps}

-- the outbox's entries follow what the store held, and everything is synced if the outbox says so
abbrev pub Puts : StoreValue → OutboxValue → StoreValue → Type 0
Puts old out new = (ks ls : List Stored) → HoldsEntries old ks ls
    → (out.sync ≡ false → HoldsEntries new ks (ls ++ plain out.entries))
    × (out.sync ≡ true → HoldsEntries new (ks ++ (ls ++ plain out.entries)) [])

-- the outbox is written: if it says so, a Base of the node, which then matches it, in place of the entries, and
-- otherwise these, by which neither file grows by more than a step
pub record Writes (node : NodeValue) (store : StoreValue) (out : OutboxValue) (new : NodeValue)
    (after : StoreValue) : Type 0 where
  pub rebases : out.rebase ≡ true → Rebases node store new after
  pub puts : out.rebase ≡ false → (new ≡ node) × Puts store out after
  pub grows : out.rebase ≡ false → GrowsByStep (disks store) (disks after)

-- how many changing calls of the device it takes to write an outbox
abbrev pub write_calls : OutboxValue → ℕ
write_calls out = if out.rebase then rebase_calls else put_calls out.entries out.sync

-- the calls of a metered device in which a step's outbox was written, after a rebase that was due
abbrev pub CallsOfStep : NodeValue → StoreValue → OutboxValue → StoreValue → Type 0
CallsOfStep node store out new =
    (k : ℕ) × CallsWhereDue node store k × CallsSucceed store.meter new.meter (k + write_calls out)

-- the replica has rebased if that was due, taken a step, written the outbox, returned its notes, and sent its
-- envelopes, and goes on. `Metered` says that its device counts its calls
pub record IsTaken (m : Meaning) (IsText : List ℕ → Type 0) (Metered : Type 0) (old : ReplicaValue) (i : Input)
    (new : ReplicaValue) (notes : List Note) (Sends : List EnvelopeValue → Type 0) : Type 0 where
  pub mid : NodeValue
  pub between : StoreValue
  pub rebases : RebasesWhereDue old.node old.store mid between
  pub stepped : NodeValue
  pub out : OutboxValue
  pub steps : Steps m IsText mid i stepped out
  pub writes : Writes stepped between out new.node new.store
  pub noted : notes ≡ out.notes
  pub sent : Sends out.envelopes
  pub calls : Metered → CallsOfStep old.node old.store out new.store
  pub alive : new.failed ≡ false
  pub store_alive : new.store.failed ≡ false
  pub awake : new.node.halted ≡ false

-- what a call guarantees of the envelopes that it gave to its post, whatever the post
pub record GivesBy (m : Meaning) (IsText : List ℕ → Type 0) (Metered : Type 0) (old : ReplicaValue) (i : Input)
    (new : ReplicaValue) (r : Result (Vec Note Global) ReplicaFault) (envelopes : List EnvelopeValue)
    (Sends : List EnvelopeValue → Type 0) : Type 0 where
  -- if it goes on, it has taken its step, and these are the step's envelopes
  pub taken : IfGoesOn r (λ notes. IsTaken m IsText Metered old i new notes (λ all. (all ≡ envelopes) × Sends all))
  -- what it then holds permits all its notes and envelopes
  pub goes : (h : History) (n : ℕ)
      → NodeFits m h n (ReplicaHolds m old.node old.store h.genesis n) (disks old.store) → InputFits h i
      → IfGoesOn r (λ notes. LeavesFit m h n (ReplicaHolds m new.node new.store h.genesis n)
      (disks new.store) notes (batch_of n envelopes))
  -- however it ends, and whatever it restarted from, each image that a stop may leave covers what the envelopes say,
  -- since that was synced before they were given
  pub syncs : (genesis : Genesis) (n : ℕ) (x : NodeMessage) → ReplicaRemembers old.node old.store genesis n
      → (d : Datagram) → Contains (batch_of n envelopes) d → Spells (said_by genesis n x) d.bytes
      → AllCover m genesis n (disks new.store) x

-- A call failed with the fault of this number, for its cause. `Honest` says that its device does what its contract
-- says, and `Metered` that it counts its calls.
pub record IsRefused (Honest Metered : Type 0) (old new : ReplicaValue) (number : ℕ) : Type 0 where
  pub told : IsNumberOfCalls number
  -- 7 exactly if the device has failed once more
  pub failures : new.store.failures ≡ failures_by number old.store.failures
  pub calls : Metered → Honest → RefusedAfter number old.store.meter new.store.meter
  -- 11 only after an earlier error, or if no generation is left, or only one and a rebase was due: a call rebases at
  -- most twice
  pub earlier : number ≡ 11 → old.failed ≡ false → old.store.failed ≡ false → old.store.generation + 1 < max_count → ⊥
  pub second : Honest → number ≡ 11 → old.failed ≡ false → old.store.failed ≡ false → old.store.generation < max_count
      → IsDue old.node old.store
  -- after an error there is no other, and nothing changes
  pub once : old.failed ≡ true → (number ≡ 11) × (new ≡ old)
  -- it has ended the replica, unless it reports a lost datagram
  pub ends : (number ≡ 15 → ⊥) → new.failed ≡ true
  -- its store has switched files only by a rebase that was due
  pub file : Honest → (number ≡ 15 → ⊥) → KeepsOrSwitchesFiles old.node old.store new.store
  -- if no call of the device has failed, the files are unchanged, or as that rebase left them
  pub stays : Honest → (number ≡ 7 → ⊥) → (number ≡ 15 → ⊥) → AreLeft old.node old.store new.store
  -- 14 exactly if the node has halted
  pub halts : number ≡ 14 → new.node.halted ≡ true
  pub awake : old.node.halted ≡ false → (number ≡ 14 → ⊥) → new.node.halted ≡ false

-- the replica goes on: it and its store have not failed, its node has not halted and has executed what it could, and
-- if the store kept what the acceptor holds, it still does
pub record StaysUp (Honest : Type 0) (old new : ReplicaValue) : Type 0 where
  pub alive : new.failed ≡ false
  pub store_alive : new.store.failed ≡ false
  pub awake : new.node.halted ≡ false
  pub runs : NothingToRun new.node
  pub remembers : Honest → (genesis : Genesis) (n : ℕ) → ReplicaRemembers old.node old.store genesis n
      → ReplicaRemembers new.node new.store genesis n

-- a part of a call failed with this, which rebases at most this often, and more than once only if a rebase was due; it
-- leaves the store with such a file, and, if no call of the device has failed, the files like this
pub record IsCutShort (Honest Metered : Type 0) (most : ℕ) (node : NodeValue) (store : StoreValue) (new : NodeValue)
    (after : StoreValue) (File Left : Type 0) (e : ReplicaFault) : Type 0 where
  pub told : IsOfCalls e
  pub only : IfSend (λ notes. ⊥) e
  pub calls : Metered → Honest → RefusedAfter (fault_number e) store.meter after.meter
  pub earlier : e ≡ fault.Failed → store.failed ≡ false → store.generation + most ≤ max_count → ⊥
  pub second : Honest → e ≡ fault.Failed → store.failed ≡ false → store.generation < max_count → IsDue node store
  pub file : Honest → File
  pub stays : Honest → IfSpared Left e
  pub halts : e ≡ fault.Halted → new.halted ≡ true
  pub awake : node.halted ≡ false → (fault_number e ≡ 14 → ⊥) → new.halted ≡ false

-- ---- a group of one

-- A group begins with this call: the node has executed what it could, or the call fails as one of `take` does; and if a
-- rebase is due at generation 2^48, it fails, and not for want of memory.
pub record BeginsGroup {T : Type 0} (Honest Metered : Type 0) (old new : ReplicaValue)
    (r : Result T ReplicaFault) : Type 0 where
  pub runs : OnOk r (NothingToRun new.node)
  pub refused : IfErr r (λ e. IsRefused Honest Metered old new (fault_number e))
  pub last : Honest → max_count ≤ old.store.generation → IsDue old.node old.store
      → IsErrAnd r (λ e. WantsNoMemory (fault_number e))

-- A group ends with this call, of a replica that had not failed: the node is unchanged, and the same file is live. The
-- store goes on, or the call fails with `Device`, but only if something waits for a sync or a flush.
pub record EndsGroup {T : Type 0} (waits : Bool) (old new : ReplicaValue) (r : Result T ReplicaFault) : Type 0 where
  pub node : new.node ≡ old.node
  pub file : KeepsItsFile old.store new.store
  pub store_alive : OnOk r (new.store.failed ≡ false)
  pub refused : IfErr r (λ e. (fault_number e ≡ 7) × (waits ≡ true))

-- ---- as a world sees it

-- a rebase is due and no generation is left for it: so it fails, and not for want of memory
abbrev pub IsOfLast : ReplicaValue → ℕ → Type 0
IsOfLast old number = max_count ≤ old.store.generation → IsDue old.node old.store → WantsNoMemory number

-- the replica took this input, and sent these datagrams of its node
pub record IsTakenAs (m : Meaning) (IsText : List ℕ → Type 0) (old : ReplicaValue) (i : Input)
    (new : ReplicaValue) (notes : List Note) (sent : List Datagram) : Type 0 where
  pub envelopes : List EnvelopeValue
  pub batch : sent ≡ batch_of old.node.header.node envelopes
  pub taken : IsTaken m IsText ⊤ old i new notes (λ ls. ls ≡ envelopes)

-- the result of a call
abbrev pub ComesTo : Meaning → (List ℕ → Type 0) → ReplicaValue → Input → ReplicaValue
    → Result (List Note × List Datagram) ℕ → Type 0
ComesTo m IsText old i new (Ok told) = IsTakenAs m IsText old i new told.0 told.1
ComesTo m IsText old i new (Err number) = IsRefused ⊤ ⊤ old new number × IsOfLast old number
