-- What a call of `compact` has done.
use Rattle.std.specs.Prelude.{◌≡◌, ℕ, ◌<◌, ◌≤◌, ⊤, true, false, Result, Ok, Err}
use Rattle.lk_types.specs.Limits.{max_count}
use Rattle.lk_memory_disk.specs.Memory.{disk_of}
use Rattle.lk_disk.specs.Meters.{CallsSucceed}
use Rattle.lk_log.specs.Causes.{rebase_calls}
use Rattle.lk_log.specs.StoreValue.{disks}
use Rattle.lk_log.specs.Stores.{KeepsItsFile}
use Rattle.lk_learner.specs.Learners.{executed}
use Rattle.lk_node.specs.Histories.{Genesis}
use Rattle.lk_node.specs.Holdings.{Holding}
use Rattle.lk_node.specs.Keeping.{ReplicaHolds}
use Rattle.lk_recovery.specs.Compacting.{AllStandAt, AreSame, Rebases}
use Rattle.lk_node_interface.specs.Faults.{RefusedAfter, IsStoreFault}
use Rattle.lk_replica.specs.ReplicaValue.{ReplicaValue, device_of}
use Rattle.lk_replica.specs.Taking.{IsRefused}
use Rattle.lk_state.specs.Meanings.{Meaning}

-- the replica has written its Base, in the calls that a rebase takes, and goes on: whatever a stop may leave of its
-- disks stands for the packed text of everything that it has executed
pub record IsCompacted (m : Meaning) (old new : ReplicaValue) : Type 0 where
  pub rebases : Rebases old.node old.store new.node new.store
  pub stands : (genesis : Genesis) (n : ℕ) (x : Holding) → ReplicaHolds m old.node old.store genesis n x
      → AllStandAt m genesis n (disk_of (device_of new.store)) (executed new.node.learner) x.paxos.done
  pub calls : CallsSucceed old.store.meter new.store.meter rebase_calls
  pub alive : new.failed ≡ false
  pub store_alive : new.store.failed ≡ false

-- the call failed with the fault of this number, for its cause: 11 only after an earlier error, after which there is
-- no other and nothing changes, or if no generation is left. It has ended the replica, whose node is unchanged and
-- whose store has not switched files; and if no call of the device has failed, the files are unchanged. `Honest` says
-- that its device does what its contract says, and `Metered` that it counts its calls
pub record IsNotCompacted (Honest Metered : Type 0) (old new : ReplicaValue) (number : ℕ) : Type 0 where
  pub of_store : IsStoreFault number
  pub calls : Metered → Honest → RefusedAfter number old.store.meter new.store.meter
  pub earlier : number ≡ 11 → old.failed ≡ false → old.store.failed ≡ false → old.store.generation < max_count → ⊥
  pub once : old.failed ≡ true → (number ≡ 11) × (new ≡ old)
  pub rests : new.node ≡ old.node
  pub file : KeepsItsFile old.store new.store
  pub ends : new.failed ≡ true
  pub stays : Honest → (number ≡ 7 → ⊥) → AreSame (disks old.store) (disks new.store)

-- the result of the call: an error leaves the node unchanged, and the same file live; and if no generation is left, it
-- fails with `Failed`, even if it is out of memory
abbrev pub CompactsTo : Meaning → ReplicaValue → ReplicaValue → Result (Unit {0}) ℕ → Type 0
CompactsTo m old new (Ok done) = IsCompacted m old new
CompactsTo m old new (Err number) =
    IsRefused ⊤ ⊤ old new number × IsStoreFault number × (max_count ≤ old.store.generation → number ≡ 11)
    × (new.node ≡ old.node) × KeepsItsFile old.store new.store
