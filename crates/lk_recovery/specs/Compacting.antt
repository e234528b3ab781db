-- When a rebase is due, and what a rebase has done to a node and its store.
use Rattle.std.specs.Prelude.{◌≡◌, ℕ, ◌+◌, ◌≤◌, ◌==◌, ◌⊎◌, if◌then◌else◌, List, [], ◌∷◌, length}
use Rattle.lk_disk.specs.Disk.{Disk, contents}
use Rattle.lk_disk.specs.declared.device.Side.{Side}
use Rattle.lk_store_format.specs.Values.{StandingValue}
use Rattle.lk_store_format.specs.declared.stored.Stored.{Stored}
use Rattle.lk_store_format.specs.declared.stored.Stored.TheVariants.{Base}
use Rattle.lk_log.specs.Causes.{rebase_calls}
use Rattle.lk_log.specs.Images.{Image, MayLeaveBoth}
use Rattle.lk_log.specs.StoreValue.{StoreValue, disks}
use Rattle.lk_log.specs.Stores.{HoldsEntries, KeepsItsFile, next_base}
use Rattle.lk_learner.specs.Learners.{executed}
use Rattle.lk_node.specs.NodeValue.{NodeValue}
use Rattle.lk_node.specs.NewBases.{standing_of, with_snapshot, IsSnapshotOld}
use Rattle.lk_state.specs.Meanings.{Meaning}
use Rattle.lk_node.specs.Histories.{Genesis, Command}
use Rattle.lk_node.specs.Leavings.{header_of, StandsAs}
use Rattle.lk_node.specs.BorneOut.{text}

-- each image that a stop may leave of these disks stands for a snapshot at this position, the packed text of this
-- list, which has that length
abbrev pub AllStandAt : Meaning → Genesis → ℕ → (Side → Disk) → ℕ → List Command → Type 0
AllStandAt m genesis n disks position done = (image : Image) → MayLeaveBoth disks image
    → (s : StandingValue) × StandsAs (header_of genesis n) (text m genesis []) image s × (s.position ≡ position)
    × (length done ≡ s.position) × (s.snapshot ≡ text m genesis done)

-- the live file has grown to half of its maximum, or so many positions are executed above the snapshot
abbrev pub IsDue : NodeValue → StoreValue → Type 0
IsDue node store =
    (131072 ≤ length (contents store.live_disk)) ⊎ IsSnapshotOld node

-- the store has the same files and knows the same of them
pub record IsSameStore (old new : StoreValue) : Type 0 where
  pub live_disk : new.live_disk ≡ old.live_disk
  pub other_disk : new.other_disk ≡ old.other_disk
  pub live : new.live ≡ old.live
  pub generation : new.generation ≡ old.generation
  pub format : new.format ≡ old.format
  pub header : new.header ≡ old.header

-- the node's Base is alone in the store, which is one generation further, and the node matches it
pub record Rebases (node : NodeValue) (store : StoreValue) (new : NodeValue) (after : StoreValue) : Type 0 where
  pub becomes : new ≡ with_snapshot node
  pub generation : after.generation ≡ store.generation + 1
  pub writes : (ks ls : List Stored) → HoldsEntries store ks ls
      → HoldsEntries after (Base (next_base store (standing_of node)) ∷ []) []

-- a store of format 1 was rebased, and so has format 2, and one of format 2 is unchanged
pub record Renews (node : NodeValue) (store : StoreValue) (new : NodeValue) (after : StoreValue) : Type 0 where
  pub rebases : store.format ≡ 1 → Rebases node store new after
  pub rests : store.format ≡ 2 → (new ≡ node) × (after ≡ store)

-- how many changing calls of the device it takes to convert a store of this format to format 2
abbrev pub renew_calls : ℕ → ℕ
renew_calls format = if format == 2 then 0 else rebase_calls

-- a rebase was made if it was due, and nothing else
pub record RebasesWhereDue (node : NodeValue) (store : StoreValue) (new : NodeValue) (after : StoreValue) : Type 0 where
  pub due : IsDue node store → Rebases node store new after
  pub rests : (IsDue node store → ⊥) → (new ≡ node) × IsSameStore store after

-- each file is unchanged
abbrev pub AreSame : (Side → Disk) → (Side → Disk) → Type 0
AreSame old new = (s : Side) → new s ≡ old s

-- the files are unchanged, or as a rebase that was due left them
abbrev pub AreLeft : NodeValue → StoreValue → StoreValue → Type 0
AreLeft node old new =
    AreSame (disks old) (disks new)
    ⊎ ((mid : NodeValue) × (between : StoreValue) × IsDue node old × Rebases node old mid between
    × AreSame (disks between) (disks new))

-- the same file is live, with the same generation, format and header, or, after a rebase that was due, one of the next
-- generation
abbrev pub KeepsOrSwitchesFiles : NodeValue → StoreValue → StoreValue → Type 0
KeepsOrSwitchesFiles node old new = KeepsItsFile old new ⊎ (IsDue node old × (new.generation ≡ old.generation + 1))

-- how many changing calls of the device it takes to rebase if that is due
pub record CallsWhereDue (node : NodeValue) (store : StoreValue) (k : ℕ) : Type 0 where
  pub due : IsDue node store → k ≡ rebase_calls
  pub rests : (IsDue node store → ⊥) → k ≡ 0
