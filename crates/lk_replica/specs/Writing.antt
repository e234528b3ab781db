-- What writing the outbox of a step has done, after the node has taken the step, and the sync after it.
use Rattle.std.specs.Prelude.{◌≡◌, ◌+◌, ◌*◌, ◌≤◌, Bool, true, false, List, ◌++◌, length}
use Rattle.lk_types.specs.Limits.{max_base_of}
use Rattle.lk_types.specs.declared.entry.Entry.{Entry}
use Rattle.lk_disk.specs.Disk.{contents}
use Rattle.lk_disk.specs.Meters.{CallsSucceed}
use Rattle.lk_store_format.specs.Entries.{plain}
use Rattle.lk_store_format.specs.declared.stored.Stored.{Stored}
use Rattle.lk_log.specs.Rooms.{StaysWithin}
use Rattle.lk_log.specs.StoreValue.{StoreValue, disks}
use Rattle.lk_log.specs.Stores.{HoldsEntries, KeepsAtLeast, KeepsItsFile}
use Rattle.lk_state.specs.Meanings.{Meaning}
use Rattle.lk_node.specs.NodeValue.{NodeValue}
use Rattle.lk_node.specs.Reaching.{HoldsNear}
use Rattle.lk_node_interface.specs.Outboxes.{OutboxValue}
use Rattle.lk_node_interface.specs.Faults.{fault_number, WantsNoMemory}
use Rattle.lk_node_interface.specs.declared.fault.ReplicaFault.{ReplicaFault}
use Rattle.lk_node_interface.specs.declared.fault.ReplicaFault.TheVariants as fault
use Rattle.lk_recovery.specs.Compacting.{Rebases}
use Rattle.lk_recovery.specs.Rebased.{HasSwitchedFiles, IsNotWritten, KeepsOrBegins, MatchesBase}
use Rattle.lk_replica.specs.Groups.{synced_if, Appends, add_step_calls}

-- entries were put into the store, which may have failed: each image that a stop may leave has everything that was
-- synced, and a prefix of the rest and of these; the same file is live, and has grown by no more bytes than so many
-- entries have; and the other file is unchanged
pub record HasPut (store : StoreValue) (es : List Entry) (after : StoreValue) : Type 0 where
  pub every_image : (ks ls : List Stored) → HoldsEntries store ks ls → KeepsAtLeast after ks (ls ++ plain es)
  pub live : after.live ≡ store.live
  pub grows : length (contents after.live_disk) ≤ length (contents store.live_disk) + 102 * length es
  pub beside : after.other_disk ≡ store.other_disk

-- the store goes on after an outbox was written; the node matches its Base if the outbox asked for one, and otherwise
-- it is unchanged, and the same file is live
pub record StaysWritten (node : NodeValue) (store : StoreValue) (out : OutboxValue) (new : NodeValue)
    (after : StoreValue) : Type 0 where
  pub store_alive : after.failed ≡ false
  pub stands : out.rebase ≡ true → MatchesBase node store new after × HoldsNear node
  pub rests : out.rebase ≡ false → new ≡ node
  pub file : out.rebase ≡ false → KeepsItsFile store after

-- A Base of the node was to be written, whatever waited for a sync. Each image that a stop may leave has what was
-- synced and a prefix of the rest, or the Base alone; what the node holds lies near; and neither file has grown, except
-- up to the size of a Base of its alpha.
pub record LeavesByBase (node : NodeValue) (store after : StoreValue) : Type 0 where
  pub room : StaysWithin (max_base_of node.acceptor.alpha) (disks store) (disks after)
  pub near : HoldsNear node
  pub every_image : (ks ls : List Stored) → HoldsEntries store ks ls → KeepsOrBegins node store ks ls after

-- an outbox was written unsynced, or its write failed
pub record LeavesGathered (node : NodeValue) (store : StoreValue) (out : OutboxValue)
    (after : StoreValue) : Type 0 where
  pub based : out.rebase ≡ true → LeavesByBase node store after
  pub put : out.rebase ≡ false → HasPut store out.entries after

-- the store has switched to a Base of the node, as if whatever waits for a sync had been synced before
abbrev pub SwitchesAsSynced : Meaning → Type 0 → NodeValue → StoreValue → NodeValue → StoreValue → Type 0
SwitchesAsSynced m Metered node store new after =
    (needs_sync : Bool) (ks ls : List Stored) → HoldsEntries store ks ls
    → HasSwitchedFiles m Metered node (synced_if needs_sync store) new after

-- an outbox was written: if it says so, by a Base, and otherwise by its entries, unsynced; in the calls that this takes
-- of a device that counts them (`Metered`)
pub record HasGathered (m : Meaning) (Metered : Type 0) (node : NodeValue) (store : StoreValue) (out : OutboxValue)
    (new : NodeValue) (after : StoreValue) : Type 0 where
  pub switches : out.rebase ≡ true → SwitchesAsSynced m Metered node store new after
  pub rebases : out.rebase ≡ true → Rebases node store new after
  pub puts : out.rebase ≡ false → Appends store out after
  pub calls : Metered → CallsSucceed store.meter after.meter (add_step_calls out)

-- the sync, or flush, failed as a write does, but with `Device`, or else with `Failed` after an earlier error
pub record IsNotSynced (Honest Metered : Type 0) (store after : StoreValue) (e : ReplicaFault) : Type 0 where
  pub written : IsNotWritten Honest Metered store after e
  pub memory : WantsNoMemory (fault_number e)
  pub device : store.failed ≡ false → e ≡ fault.Device
