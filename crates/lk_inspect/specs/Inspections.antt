-- The summary of a store's state, in terms of its list of commands.
use Rattle.std.specs.Prelude.{◌≡◌, ◌⊎◌, ◌+◌, ◌++◌, ℕ, List, length, Option, Some, None}
use Rattle.std.specs.List.{AllByRecursion}
use Rattle.std.specs.FinMap as map
use Rattle.lk_types.specs.Commands.{IsCommand}
use Rattle.lk_store_format.specs.Values.{StandingValue}
use Rattle.lk_log.specs.Images.{Image, IsEmpty, IsDamaged}
use Rattle.lk_log.specs.Stores.{Shows}
use Rattle.lk_members.specs.Effects.{Command}
use Rattle.lk_members.specs.Rosters.{Genesis}
use Rattle.lk_members.specs.Windows.{sets_from}
use Rattle.lk_state.specs.Packed.{Packs}
use Rattle.lk_state.specs.States.{WholeValue, whole_after, sessions_of}
use Rattle.lk_recovery.specs.Revivals.{run_from}
use Rattle.lk_locks.specs.Lists.{table_of}
use Rattle.lk_locks.specs.Meaning.{table_meaning}
use Rattle.lk_locks.specs.Packed.{IsTableText}
use Rattle.lk_inspect.specs.declared.inspection.Inspection.{Inspection}

-- the length of the list, the members of the next positions, the names of its plain table with their lock entries, and
-- how many clients have had a request executed
pub record DescribesList (genesis : Genesis) (L : List Command) (i : Inspection) : Type 0 where
  pub executed : i.executed ≡ length L
  pub members : i.window ≡ sets_from genesis L (length L + 1) genesis.alpha
  pub names : i.names.items ≡ map.entries (table_of L).names
  pub clients : i.clients ≡ length (sessions_of table_meaning genesis L)

-- the snapshot of the standing packs no state at its position
abbrev pub PacksNoState : StandingValue → Type 0
PacksNoState s = (w : WholeValue) → Packs IsTableText w s.snapshot → w.roster.executed ≡ s.position → ⊥

-- ---- what is found in a store

-- the summary is of the list whose state the snapshot packs, with the decided commands after it
abbrev pub ComesTo : StandingValue → Inspection → Type 0
ComesTo s i =
    (genesis : Genesis) (L : List Command) → Packs IsTableText (whole_after table_meaning genesis L) s.snapshot
    → AllByRecursion IsCommand (L ++ run_from (length L) s.pairs)
    → DescribesList genesis (L ++ run_from (length L) s.pairs) i

-- the summary is of the standing of the live file
pub record Inspects (image : Image) (i : Inspection) : Type 0 where
  pub generation : ℕ
  pub format : ℕ
  pub standing : StandingValue
  pub shows : Shows image generation format standing
  pub comes_to : ComesTo standing i

-- the summary of the store in these files, or that they have none
abbrev pub Finds : Image → Option Inspection → Type 0
Finds image None = IsEmpty image
Finds image (Some i) = Inspects image i

-- the live file has this standing, whose snapshot packs no state
pub record ShowsNone (image : Image) : Type 0 where
  pub generation : ℕ
  pub format : ℕ
  pub standing : StandingValue
  pub shows : Shows image generation format standing
  pub cannot : PacksNoState standing

-- the files are damaged, or a snapshot is
abbrev pub IsSpoilt : Image → Type 0
IsSpoilt image = IsDamaged image ⊎ ShowsNone image
