-- A disk, what the calls of a device do to it, and what a stop may leave.
use Rattle.std.specs.Prelude.{◌≡◌, ℕ, ◌+◌, ◌-◌, ◌^◌, ◌≤◌, nat_lt, min, List, [], ◌++◌, length, take, Result, Ok, Err}
use Rattle.std.specs.Prelude.{if◌then◌else◌}
use Rattle.lk_disk.specs.declared.device.Side.{Side}
use Rattle.lk_disk.specs.declared.device.Side.TheVariants.{A, B}

-- the bytes that outlast a stop, and those after them, of which a stop leaves a prefix
pub record Disk : Type 0 where
  pub synced : List ℕ
  pub unsynced : List ℕ

-- the other disk of the device
abbrev pub other : Side → Side
other A = B
other B = A

-- all bytes, as a read returns them
abbrev pub contents : Disk → List ℕ
contents d = d.synced ++ d.unsynced

-- a stop leaves the synced bytes and a prefix of the others
abbrev pub MayLeave : Disk → List ℕ → Type 0
MayLeave d left = (n : ℕ) × (left ≡ d.synced ++ take n d.unsynced)

-- a piece was appended, unsynced
abbrev pub appended : Disk → List ℕ → Disk
appended d piece = record { synced = d.synced; unsynced = d.unsynced ++ piece }

-- all bytes are synced
abbrev pub fully_synced : Disk → Disk
fully_synced d = record { synced = contents d; unsynced = [] }

-- the first n bytes, all of them synced
abbrev pub cut_to : ℕ → Disk → Disk
cut_to n d = record { synced = take n (contents d); unsynced = [] }

-- after a stop that keeps up to n unsynced bytes, and is over: what is left is synced
abbrev pub after_stop : ℕ → Disk → Disk
after_stop n d = record { synced = d.synced ++ take n d.unsynced; unsynced = [] }

-- a failed append has appended a prefix of the piece
abbrev pub AppendsSome : List ℕ → Disk → Disk → Type 0
AppendsSome piece old new = (n : ℕ) × (new ≡ appended old (take n piece))

-- a failed cut to n has left a prefix of the bytes, synced as far as n and the synced bytes reached
pub record CutShort (n : ℕ) (old new : Disk) : Type 0 where
  pub front : contents new ≡ take (length (contents new)) (contents old)
  pub kept : min n (length old.synced) ≤ length new.synced

-- a count increases by one, and stays at its maximum
abbrev pub one_more : ℕ → ℕ
one_more n = if nat_lt n (2 ^ 64 - 1) then n + 1 else n

-- a count of failures increases by one if the call failed, and is unchanged if it did not
abbrev pub HasCause : {T E : Type 0} → ℕ → ℕ → Result T E → Type 0
HasCause before now (Ok _) = now ≡ before
HasCause before now (Err _) = now ≡ one_more before
