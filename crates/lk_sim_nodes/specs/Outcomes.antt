-- The result of a node's call: what it noted and sent, and whether it goes on or was ended.
use Rattle.std.specs.Prelude.{◌≡◌, ℕ, List, [], Option, Some, None, Ok}
use Rattle.lk_memory_disk.specs.Memory.{Memory}
use Rattle.lk_disk.specs.Meters.{CallsSucceed, stopping}
use Rattle.lk_store_format.specs.Values.{HeaderValue}
use Rattle.lk_log.specs.Causes.{rebase_calls}
use Rattle.lk_node_interface.specs.declared.input.Input.{Input}
use Rattle.lk_node_interface.specs.declared.note.Note.{Note}
use Rattle.lk_node.specs.Histories.{Datagram}
use Rattle.lk_replica.specs.Behaviours.{Behaviour}
use Rattle.lk_replica.specs.Together.{sent_of, parts_of}
use Rattle.lk_replica.specs.declared.taken.Step.{Step}
use Rattle.lk_sim_nodes.specs.Ends.{IsOtherFault, IsOutOfMemory, end_by, end_at}
use Rattle.lk_sim_nodes.specs.SimNodes.{stopped_on, fallen_on, device_in}
use Rattle.lk_sim_nodes.specs.Sends.{SentUpTo}
use Rattle.lk_sim_nodes.specs.declared.end.End.{End}
use Rattle.lk_sim_nodes.specs.declared.sim_node.SimNode.{SimNode}
use Rattle.lk_sim_nodes.specs.declared.sim_node.RunState.TheVariants.{Up, Down}

-- a fault of that kind ended the node: it is down with the disks that it left, its trap is gone, and it noted and sent
-- nothing. An armed stop that it has reached is still to be carried out
pub record HasEndedByFault {R : Type 0} (Ends : ℕ → Memory
    → Type 0) (s : SimNode R) (mine : List Note) (batch : List Datagram)
    (how : Option End) (stop : Option ℕ) : Type 0 where
  pub number : ℕ
  pub left : Memory
  pub ends : Ends number left
  pub no_want : IsOtherFault number left
  pub down : s.run_state ≡ Down (fallen_on left)
  pub stop_is : stop ≡ stopping left.meter
  pub ended : how ≡ Some (end_by stop s.number number)
  pub no_notes : mine ≡ []
  pub no_batch : batch ≡ []

-- the fault has this number, and the device is this one
abbrev pub IsThis : ℕ → Memory → ℕ → Memory → Type 0
IsThis number left n d = (n ≡ number) × (d ≡ left)

-- running out of memory has stopped it, with the disks that it left, without their unsynced bytes
pub record HasStoppedOutOfMemory {R : Type 0} (Ends : ℕ → Memory → Type 0) (s : SimNode R) : Type 0 where
  pub number : ℕ
  pub left : Memory
  pub ends : Ends number left
  pub want : IsOutOfMemory number left
  pub down : s.run_state ≡ Down (stopped_on 0 0 left)

-- a node that has reached an armed stop, for this many bytes, was stopped; any other is unchanged
abbrev pub StopsIfArmed : {R : Type 0} → Behaviour R → Option ℕ → SimNode R → SimNode R → Type 0
StopsIfArmed b None s t = t ≡ s
StopsIfArmed b (Some bytes) s t = t.run_state ≡ Down (stopped_on bytes bytes (device_in b s.run_state))

-- its replica took this input; it may have reached an armed stop at a send
pub record HasTaken {R : Type 0} (b : Behaviour R) (r : R) (i : Input) (s : SimNode R) (mine : List Note)
    (batch : List Datagram) (how : Option End) (stop : Option ℕ) : Type 0 where
  pub replica : R
  pub all : List Datagram
  pub takes : b.Takes r i replica (Ok (mine, all))
  pub calls : ℕ
  pub calls_succeed : CallsSucceed (b.memory r).meter (b.memory replica).meter calls
  pub after : R
  pub up : s.run_state ≡ Up after
  pub sends : SentUpTo b stop replica after all batch
  pub ended : how ≡ end_at stop s.number

-- its replica took these together, with these steps and datagrams; it may have reached an armed stop at a send
pub record HasTakenTogether {R : Type 0} (b : Behaviour R) (r : R) (inputs : List Input) (s : SimNode R)
    (steps : List Step) (batch : List Datagram) (how : Option End) (stop : Option ℕ) : Type 0 where
  pub replica : R
  pub all : List Datagram
  pub takes : b.TakesAll r inputs replica (Ok (parts_of steps all))
  pub whole : all ≡ sent_of (parts_of steps all)
  pub calls : ℕ
  pub calls_succeed : CallsSucceed (b.memory r).meter (b.memory replica).meter calls
  pub after : R
  pub up : s.run_state ≡ Up after
  pub sends : SentUpTo b stop replica after all batch
  pub ended : how ≡ end_at stop s.number

-- a fault ended the node in a group
pub record HasFallenTogether {R : Type 0} (Ends : ℕ → Memory → Type 0) (s : SimNode R) (steps : List Step)
    (batch : List Datagram) (how : Option End) (stop : Option ℕ) : Type 0 where
  pub no_steps : steps ≡ []
  pub fallen : HasEndedByFault Ends s [] batch how stop

-- it restarted from this device
pub record HasRevived {R : Type 0} (b : Behaviour R) (device : Memory) (header : HeaderValue) (s : SimNode R)
    (mine : List Note) (batch : List Datagram) (how : Option End) (stop : Option ℕ) : Type 0 where
  pub replica : R
  pub up : s.run_state ≡ Up replica
  pub revives : b.Revives device header (Ok (replica, mine))
  pub calls : ℕ
  pub calls_succeed : CallsSucceed device.meter (b.memory replica).meter calls
  pub no_batch : batch ≡ []
  pub ended : how ≡ None
  pub no_stop : stop ≡ None

-- it compacted, and noted and sent nothing
pub record HasCompacted {R : Type 0} (b : Behaviour R) (r : R) (s : SimNode R) (mine : List Note)
    (batch : List Datagram)
    (how : Option End) (stop : Option ℕ) : Type 0 where
  pub replica : R
  pub compacts : b.Compacts r replica (Ok tt)
  pub calls_succeed : CallsSucceed (b.memory r).meter (b.memory replica).meter rebase_calls
  pub up : s.run_state ≡ Up replica
  pub no_notes : mine ≡ []
  pub no_batch : batch ≡ []
  pub ended : how ≡ None
  pub no_stop : stop ≡ None
