-- What a call that converts a store to format 2 has done.
use Rattle.std.specs.Prelude.{◌≡◌, ℕ, ◌<◌, false}
use Rattle.lk_types.specs.Limits.{max_count}
use Rattle.lk_log.specs.StoreValue.{StoreValue, disks}
use Rattle.lk_state.specs.Meanings.{Meaning}
use Rattle.lk_node.specs.Calls.{NodeFits}
use Rattle.lk_node.specs.Executing.{NothingToRun}
use Rattle.lk_node.specs.Histories.{History, Genesis}
use Rattle.lk_node.specs.Keeping.{ReplicaHolds}
use Rattle.lk_node.specs.NodeValue.{NodeValue}
use Rattle.lk_node_interface.specs.Faults.{IsStoreFault}
use Rattle.lk_recovery.specs.Compacting.{Renews}
use Rattle.lk_recovery.specs.Remembering.{ReplicaRemembers}

-- a store of format 1 was rebased, and one of format 2 is unchanged; the node fits each history that it fitted, and
-- the store keeps what the acceptor holds if it did before
pub record IsRenewed (m : Meaning) (node : NodeValue) (store : StoreValue) (new : NodeValue)
    (after : StoreValue) : Type 0 where
  pub renews : Renews node store new after
  pub goes : (h : History) (n : ℕ) → NodeFits m h n (ReplicaHolds m node store h.genesis n) (disks store)
      → NodeFits m h n (ReplicaHolds m new after h.genesis n) (disks after)
  pub remembers : (genesis : Genesis) (n : ℕ) → ReplicaRemembers node store genesis n
      → ReplicaRemembers new after genesis n

-- the store has format 2, and has not failed if it had not before; the node is the same, and if it had executed all
-- that it can, it has
pub record HasFormatTwo (node : NodeValue) (store : StoreValue) (new : NodeValue) (after : StoreValue) : Type 0 where
  pub format : after.format ≡ 2
  pub alive : store.failed ≡ false → after.failed ≡ false
  pub runs : NothingToRun node → NothingToRun new
  pub header : new.header ≡ node.header

-- the conversion of a store without format 2 failed with the fault of this number: the device has failed, memory ran
-- out, or, if the store failed earlier or no generation is left, with 11
pub record IsNotRenewed (store : StoreValue) (number : ℕ) : Type 0 where
  pub of_store : IsStoreFault number
  pub old : store.format ≡ 2 → ⊥
  pub earlier : store.failed ≡ false → store.generation < max_count → number ≡ 11 → ⊥
