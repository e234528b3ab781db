-- A file with a buffer: appended bytes wait in memory before the file below has them.
use Rattle.std.specs.Prelude.{◌≡◌, ℕ, ◌-◌, ◌≤◌, ⊤, Bool, true, false, List, [], length, take}
use Rattle.lk_disk.specs.Disk.{Disk, MayLeave, contents, appended, AppendsSome}
use Rattle.lk_disk.specs.Files.{File, whole, truncated, left_of, IsWhole}

-- what a contract sees of it: what is known of the file below, how many of its bytes count, which bytes wait behind
-- these, whether it was truncated and not yet synced, whether a call has failed that leaves it unusable, and how many
-- calls have failed
pub record BufferedValue : Type 0 where
  pub below : File
  pub size : ℕ
  pub pending : List ℕ
  pub is_short : Bool
  pub failed : Bool
  pub failures : ℕ

-- the first k bytes of a disk
abbrev pub front : ℕ → Disk → Disk
front k d = record { synced = take k d.synced; unsynced = take (k - length d.synced) d.unsynced }

-- What is known of both together: the bytes that wait follow those of the file below that count. After a failed
-- hand-over the file below may have some of the bytes that wait, and these do not count: so nothing else is known then.
abbrev pub known : Bool → ℕ → List ℕ → File → File
known true size pending f = f
known false size pending f = whole (appended (front size (left_of f)) pending)

abbrev pub known_of : BufferedValue → File
known_of b = known b.is_short b.size b.pending b.below

-- no call has failed: all bytes of the file below count, or it was truncated to as many, and then nothing waits
abbrev pub IsReady : Bool → ℕ → List ℕ → File → Type 0
IsReady true size pending f = (pending ≡ []) × (d : Disk) × (f ≡ truncated size d) × (size ≤ length (contents d))
IsReady false size pending f = IsWhole f × (size ≡ length (contents (left_of f)))

-- the file below has the bytes that count, and behind them no other than the first of those that wait
abbrev pub HasNoMore : Bool → ℕ → List ℕ → File → Type 0
HasNoMore true size pending f = ⊤
HasNoMore false size pending f = AppendsSome pending (front size (left_of f)) (left_of f)

-- whatever a stop may leave of the one disk, it may leave of the other
abbrev pub LeavesNoMore : Disk → Disk → Type 0
LeavesNoMore d e = (left : List ℕ) → MayLeave d left → MayLeave e left
