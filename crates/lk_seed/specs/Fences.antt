-- The fences that the new cluster is to have, and when a table has them.
use Rattle.std.specs.Prelude.{◌≡◌, ℕ, ◌+◌, ◌≤◌, List, Contains, map}
use Rattle.std.specs.List.{AllByRecursion}
use Rattle.lk_locks.specs.declared.lock_entry.Holders.TheVariants.{Nobody}
use Rattle.lk_locks.specs.declared.lock_entry.LockEntry.{LockEntry}
use Rattle.lk_seed.specs.declared.wanted.Wanted.{Wanted}

-- a name is to have the last fence of this lock entry, and so many more
abbrev pub wanted_past : ℕ → List ℕ × LockEntry → Wanted
wanted_past past n = record { name = n.0; fence = n.1.fence + past }

-- that is so of each of these names
abbrev pub all_wanted_past : ℕ → List (List ℕ × LockEntry) → List Wanted
all_wanted_past past names = map (wanted_past past) names

-- the name is free here, and its last fence is at least the wanted one
pub record HasFence (names : List (List ℕ × LockEntry)) (w : Wanted) : Type 0 where
  pub lock_entry : LockEntry
  pub has : Contains names (w.name, lock_entry)
  pub free : lock_entry.holders ≡ Nobody
  pub fence : w.fence ≤ lock_entry.fence

-- that is so of all
abbrev pub HasFences : List Wanted → List (List ℕ × LockEntry) → Type 0
HasFences wanted names = AllByRecursion (HasFence names) wanted
