-- What holds after a rebase of a node and its store, at Ok and after an error.
use Rattle.std.specs.Prelude.{◌≡◌, ◌⊎◌, ℕ, ◌+◌, ◌<◌, ◌≤◌, false, List, [], length}
use Rattle.lk_types.specs.Limits.{max_base_of, max_count}
use Rattle.lk_disk.specs.Disk.{Disk, contents}
use Rattle.lk_disk.specs.declared.device.Side.{Side}
use Rattle.lk_disk.specs.Meters.{CallsSucceed}
use Rattle.lk_log.specs.Causes.{rebase_calls}
use Rattle.lk_log.specs.Rooms.{StaysWithin}
use Rattle.lk_log.specs.StoreValue.{StoreValue, disks}
use Rattle.lk_log.specs.Stores.{FitsBase, KeepsAtLeast, KeepsItsFile, KeepsOrIs, next_base}
use Rattle.lk_store_format.specs.declared.stored.Stored.{Stored}
use Rattle.lk_state.specs.Meanings.{Meaning}
use Rattle.lk_agreement_laws.specs.Acceptors.{Covers}
use Rattle.lk_agreement_laws.specs.Datagrams.{NodeMessage}
use Rattle.lk_learner.specs.Learners.{executed}
use Rattle.lk_node.specs.Calls.{NodeFits, LeavesFit}
use Rattle.lk_node.specs.Executing.{NothingToRun}
use Rattle.lk_node.specs.Histories.{History, Genesis}
use Rattle.lk_node.specs.Holdings.{Holding}
use Rattle.lk_node.specs.Keeping.{StoreKeeps, ReplicaHolds, HoldsBeforeRebase}
use Rattle.lk_node.specs.Leavings.{header_of, DisksFit, AllCover}
use Rattle.lk_node.specs.NodeValue.{NodeValue}
use Rattle.lk_node.specs.NewBases.{standing_of, with_snapshot}
use Rattle.lk_node_interface.specs.Faults.{IsStoreFault, fault_number, RefusedAfter, IfSpared}
use Rattle.lk_recovery.specs.Compacting.{AllStandAt, AreSame, Rebases}
use Rattle.lk_recovery.specs.Remembering.{ReplicaRemembers}
use Rattle.lk_recovery.specs.Rooms.{GrowsFromBase}
use Rattle.lk_node_interface.specs.declared.fault.ReplicaFault.{ReplicaFault}
use Rattle.lk_node_interface.specs.declared.fault.ReplicaFault.TheVariants as fault

-- ---- a rebase

-- the node matches its Base, which its disks may begin with, and has executed what it could if it had before; and the
-- store has the next generation and format 2, and has not failed
pub record MatchesBase (node : NodeValue) (store : StoreValue) (new : NodeValue) (after : StoreValue) : Type 0 where
  pub becomes : new ≡ with_snapshot node
  pub fits_base : FitsBase (standing_of node)
  pub runs : NothingToRun node → NothingToRun new
  pub generation : after.generation ≡ store.generation + 1
  pub format : after.format ≡ 2
  pub store_alive : after.failed ≡ false

-- the node's Base is alone in the store, written in this many calls of a device that counts them (`Metered`), and is
-- no longer than a Base of its alpha may be. In each history that the node fitted it goes on, and sends and notes
-- nothing; it holds something if it did before, and the store keeps what the acceptor holds if it did before; whatever
-- a stop may leave of the disks covers what the node does, and stands for a snapshot of everything executed
pub record HasSwitchedFiles (m : Meaning) (Metered : Type 0) (node : NodeValue) (store : StoreValue) (new : NodeValue)
    (after : StoreValue) : Type 0 where
  pub rebases : Rebases node store new after
  pub calls : Metered → CallsSucceed store.meter after.meter rebase_calls
  pub short : length (contents after.live_disk) ≤ max_base_of node.acceptor.alpha
  pub goes : (h : History) (n : ℕ) → NodeFits m h n (ReplicaHolds m node store h.genesis n) (disks store)
      → LeavesFit m h n (ReplicaHolds m new after h.genesis n) (disks after) [] []
  pub shows : (genesis : Genesis) (n : ℕ) (held : Holding) → ReplicaHolds m node store genesis n held
      → (x : Holding) × ReplicaHolds m new after genesis n x
  pub remembers : (genesis : Genesis) (n : ℕ) → ReplicaRemembers node store genesis n
      → ReplicaRemembers new after genesis n
  pub syncs : (genesis : Genesis) (n : ℕ) (x : NodeMessage) → StoreKeeps (header_of genesis n) store node.acceptor.state
      → Covers node.acceptor.state x → AllCover m genesis n (disks after) x
  pub stands : (genesis : Genesis) (n : ℕ) (held : Holding) → ReplicaHolds m node store genesis n held
      → AllStandAt m genesis n (disks after) (executed new.learner) held.paxos.done

-- each image that a stop may leave of the store has what was synced and a prefix of the rest; or it may have the node's
-- Base alone instead, which fits into a file
abbrev pub KeepsOrBegins : NodeValue → StoreValue → List Stored → List Stored → StoreValue → Type 0
KeepsOrBegins node store ks ls after =
    KeepsAtLeast after ks ls
    ⊎ (FitsBase (standing_of node) × KeepsOrIs (disks after) ks ls (next_base store (standing_of node)))

-- each image that a stop may leave of the store fits each history that the node fitted, and covers what every image
-- covered; neither file has grown, except up to the size of a Base of its alpha
pub record StaysSafe (m : Meaning) (node : NodeValue) (store after : StoreValue) : Type 0 where
  pub fits : (h : History) (n : ℕ) → NodeFits m h n (HoldsBeforeRebase m node store h.genesis n) (disks store)
      → DisksFit m h n (disks after)
  pub covers : (genesis : Genesis) (n : ℕ) (x : NodeMessage)
      → StoreKeeps (header_of genesis n) store node.acceptor.state
      → AllCover m genesis n (disks store) x → AllCover m genesis n (disks after) x
  pub room : StaysWithin (max_base_of node.acceptor.alpha) (disks store) (disks after)

-- a write failed with this fault, for its cause: the device has failed, memory ran out, or, if the store failed
-- earlier or no generation is left, with `Failed`. The same file is live, with the same generation, format and header;
-- and if no call of the device has failed, the files are unchanged
pub record IsNotWritten (Honest Metered : Type 0) (store after : StoreValue) (e : ReplicaFault) : Type 0 where
  pub of_store : IsStoreFault (fault_number e)
  pub calls : Metered → Honest → RefusedAfter (fault_number e) store.meter after.meter
  pub earlier : e ≡ fault.Failed → store.failed ≡ false → store.generation < max_count → ⊥
  pub file : KeepsItsFile store after
  pub stays : Honest → IfSpared (AreSame (disks store) (disks after)) e

-- a rebase failed with this, and the node is unchanged: it matches no Base to which its store has not switched
pub record IsNotRebased (Honest Metered : Type 0) (node : NodeValue) (store : StoreValue) (new : NodeValue)
    (after : StoreValue) (e : ReplicaFault) : Type 0 where
  pub rests : new ≡ node
  pub why : IsNotWritten Honest Metered store after e

-- ---- a rebase if it is due

-- the store has not failed and is at most one generation further, and the node has executed what it could if it had
-- before
pub record StaysAlive (node : NodeValue) (store : StoreValue) (new : NodeValue) (after : StoreValue) : Type 0 where
  pub store_alive : after.failed ≡ false
  pub further : after.generation ≤ store.generation + 1
  pub runs : NothingToRun node → NothingToRun new

-- ---- a call that may rebase

-- what a call leaves on the disks, however it ends: if the history has the call's input, each image that a stop may
-- leave fits the earlier history; each covers what every image covered; and neither file has grown, except up to this
-- many bytes, nor by more than a step except by a Base
pub record LeavesDisks (m : Meaning) (Heard : History → Type 0) (most : ℕ) (node : NodeValue) (store : StoreValue)
    (after : Side → Disk) : Type 0 where
  pub ends : (h : History) (n : ℕ) → NodeFits m h n (ReplicaHolds m node store h.genesis n) (disks store)
      → Heard h → DisksFit m h n after
  pub covers : (genesis : Genesis) (n : ℕ) (x : NodeMessage) → ReplicaRemembers node store genesis n
      → AllCover m genesis n (disks store) x → AllCover m genesis n after x
  pub room : StaysWithin most (disks store) after
  pub grows : GrowsFromBase (disks store) after
