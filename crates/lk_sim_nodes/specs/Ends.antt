-- How a call of a node ends it: which calls fail, by which fault, and what that leaves.
use Rattle.std.specs.Prelude.{◌≡◌, ℕ, ◌⊎◌, false, true, List, Option, Some, None, Err}
use Rattle.lk_memory_disk.specs.Memory.{Memory}
use Rattle.lk_store_format.specs.Values.{HeaderValue}
use Rattle.lk_node_interface.specs.Faults.{RefusedAfter}
use Rattle.lk_node_interface.specs.declared.input.Input.{Input}
use Rattle.lk_replica.specs.Behaviours.{Behaviour}
use Rattle.lk_sim_nodes.specs.declared.end.End.{End}
use Rattle.lk_sim_nodes.specs.declared.end.End.TheVariants.{Fault, Stopped}

-- ---- a call that fails

-- a call of the replica failed with the fault of this number, and left this device
abbrev pub Breaks : {R : Type 0} → Behaviour R → R → Input → ℕ → Memory → Type 0
Breaks {R = R} b r i number left =
    (q : R) × b.Takes r i q (Err number) × RefusedAfter number (b.memory r).meter left.meter × (left ≡ b.memory q)

-- a call of the replica for a group failed with the fault of this number, and left this device
abbrev pub BreaksTogether : {R : Type 0} → Behaviour R → R → List Input → ℕ → Memory → Type 0
BreaksTogether {R = R} b r inputs number left =
    (q : R) × b.TakesAll r inputs q (Err number)
    × RefusedAfter number (b.memory r).meter left.meter × (left ≡ b.memory q)

-- a restart failed with the fault of this number, and left this device
abbrev pub StaysDown : {R : Type 0} → Behaviour R → Memory → HeaderValue → ℕ → Memory → Type 0
StaysDown b device header number left =
    b.Revives device header (Err (number, left)) × RefusedAfter number device.meter left.meter

-- a compaction failed with the fault of this number, and left this device
abbrev pub FailsToCompact : {R : Type 0} → Behaviour R → R → ℕ → Memory → Type 0
FailsToCompact {R = R} b r number left =
    (q : R) × b.Compacts r q (Err number) × RefusedAfter number (b.memory r).meter left.meter × (left ≡ b.memory q)

-- ---- by which fault

-- a fault other than "out of memory"
pub record IsOtherFault (number : ℕ) (left : Memory) : Type 0 where
  pub memory : number ≡ 8 → ⊥
  pub halted : number ≡ 14 → ⊥
  pub envelopes : number ≡ 15 → ⊥
  pub starved : left.meter.starved ≡ false

-- the fault "out of memory"
abbrev pub IsOutOfMemory : ℕ → Memory → Type 0
IsOutOfMemory number left = (number ≡ 8) ⊎ (number ≡ 14) ⊎ (number ≡ 15) ⊎ (left.meter.starved ≡ true)

-- the fault is neither that of a damaged store nor that of another's
abbrev pub IsNoStoreMismatch : ℕ → Type 0
IsNoStoreMismatch number = (number ≡ 9 → ⊥) × (number ≡ 10 → ⊥)

-- only such a fault ends a node: the device has failed, or the store failed earlier or has no generation left
abbrev pub IsNumberOfEnd : ℕ → Type 0
IsNumberOfEnd number = (number ≡ 7) ⊎ (number ≡ 11)

-- the same of an end that reports a fault
abbrev pub IsEndByCalls : Option End → Type 0
IsEndByCalls None = Unit {0}
IsEndByCalls (Some (Fault n number)) = IsNumberOfEnd number
IsEndByCalls (Some (Stopped n)) = Unit {0}

-- ---- how it ended

-- how a node ended: with an armed stop if it has reached one, or else with a fault of this number
abbrev pub end_by : Option ℕ → ℕ → ℕ → End
end_by None n number = Fault n number
end_by (Some bytes) n number = Stopped n

-- how a node ended that has reached an armed stop at a send, if it has
abbrev pub end_at : Option ℕ → ℕ → Option End
end_at None n = None
end_at (Some bytes) n = Some (Stopped n)
