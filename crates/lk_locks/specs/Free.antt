-- When a name of a table is free.
use Rattle.std.specs.Prelude.{◌≡◌, Option, Some, None}
use Rattle.lk_locks.specs.declared.lock_entry.Holders.TheVariants.{Nobody}
use Rattle.lk_locks.specs.declared.lock_entry.LockEntry.{LockEntry}

-- nobody holds the name with this lock entry: it is unknown, or free
abbrev pub IsFree : Option LockEntry → Type 0
IsFree None = Unit {0}
IsFree (Some s) = s.holders ≡ Nobody
