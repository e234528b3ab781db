-- An open store, and what a stop may leave of it.
use Rattle.std.specs.Prelude.{◌≡◌, ℕ, ◌+◌, ◌*◌, ◌<◌, ◌≤◌, ◌⊎◌, nat_le, Bool, false, IsTrue, List, [], ◌∷◌, ◌++◌, length}
use Rattle.std.specs.Prelude.{take, Result, Ok, Err, IsErrOf, if◌then◌else◌}
use Rattle.std.specs.List.{AllByRecursion}
use Rattle.lk_types.specs.Ballots.{zero_ballot}
use Rattle.lk_types.specs.Limits.{max_votes}
use Rattle.lk_types.specs.declared.entry.Entry.{Entry}
use Rattle.lk_types.specs.Votes.{are_votes_above}
use Rattle.lk_disk.specs.Disk.{Disk, other, contents, MayLeave}
use Rattle.lk_disk.specs.declared.device.Side.{Side}
use Rattle.lk_store_format.specs.Entries.{spelling_of_all, IsStored, are_pairs_above}
use Rattle.lk_store_format.specs.Files.{IsFile}
use Rattle.lk_store_format.specs.Formats.{format, is_mixed}
use Rattle.lk_store_format.specs.Bases.{is_misplaced, generation}
use Rattle.lk_store_format.specs.Standings.{HasHeader, StandsFor}
use Rattle.lk_store_format.specs.Values.{HeaderValue, StandingValue, BaseValue}
use Rattle.lk_store_format.specs.declared.stored.Stored.{Stored}
use Rattle.lk_store_format.specs.declared.stored.Stored.TheVariants.{Base}
use Rattle.lk_log.specs.Images.{Image, MayLeaveBoth, IsLive, IsEmpty, IsDamaged, SameMeaning, seen}
use Rattle.lk_log.specs.StoreValue.{StoreValue, pick}
use Rattle.lk_log.specs.declared.fault.StoreFault.{StoreFault}
use Rattle.lk_log.specs.declared.fault.StoreFault.TheVariants.{NoMemory}

-- a file whose Base, if any, has a smaller generation than this
pub record IsOlder (d : Disk) (newest : ℕ) : Type 0 where
  pub entries : List Stored
  pub is_damaged : Bool
  pub file : IsFile (contents d) entries is_damaged
  pub base_first : is_misplaced entries ≡ false
  pub less : generation entries < newest

-- the live disk holds these entries, the first of them synced, and the other disk is older
pub record HoldsOn (live_disk other_disk : Disk) (synced_entries unsynced_entries : List Stored) : Type 0 where
  pub synced : live_disk.synced ≡ spelling_of_all synced_entries
  pub unsynced : live_disk.unsynced ≡ spelling_of_all unsynced_entries
  pub fit : AllByRecursion IsStored (synced_entries ++ unsynced_entries)
  pub base_first : is_misplaced (synced_entries ++ unsynced_entries) ≡ false
  pub sound : is_mixed (synced_entries ++ unsynced_entries) ≡ false
  pub older : IsOlder other_disk (generation synced_entries)

-- a store holds these entries, the first of them synced, after a Base of its generation, its format and its header
pub record HoldsEntries (s : StoreValue) (synced_entries unsynced_entries : List Stored) : Type 0 where
  pub on : HoldsOn s.live_disk s.other_disk synced_entries unsynced_entries
  pub generation_is : s.generation ≡ generation synced_entries
  pub format_is : s.format ≡ format synced_entries
  pub header_is : HasHeader synced_entries s.header

-- each image that a stop may leave of these disks has all of the first entries and a prefix of the others
abbrev pub KeepsAtLeastOn : Side → Disk → Disk → List Stored → List Stored → Type 0
KeepsAtLeastOn live live_disk other_disk first more =
    (image : Image) → MayLeaveBoth (pick live live_disk other_disk) image
    → (k : ℕ) × IsLive image (first ++ take k more)

-- the same of a store
abbrev pub KeepsAtLeast : StoreValue → List Stored → List Stored → Type 0
KeepsAtLeast s = KeepsAtLeastOn s.live s.live_disk s.other_disk

-- ---- what a call leaves

-- after the call the same file is live, with the same generation, format and header
abbrev pub KeepsItsFile : StoreValue → StoreValue → Type 0
KeepsItsFile old new =
    (new.live ≡ old.live) × (new.generation ≡ old.generation) × (new.format ≡ old.format) × (new.header ≡ old.header)

-- neither file has changed
abbrev pub KeepsBothDisks : StoreValue → StoreValue → Type 0
KeepsBothDisks old new = (new.live_disk ≡ old.live_disk) × (new.other_disk ≡ old.other_disk)

-- the other file is unchanged, and out of memory the live one is too
abbrev pub KeepsOtherDisk : {T : Type 0} → StoreValue → StoreValue → Result T StoreFault → Type 0
KeepsOtherDisk old new result =
    (new.other_disk ≡ old.other_disk) × (IsErrOf result NoMemory → new.live_disk ≡ old.live_disk)

-- ---- a rebase

-- bytes of a snapshot that leave room in a Base for a header, 128 votes and 128 pairs
abbrev pub max_snapshot : ℕ
max_snapshot = 42142

-- a standing that may be written: its snapshot leaves room in a Base for all votes and pairs, and these are few and in
-- order
pub record FitsBase (s : StandingValue) : Type 0 where
  pub some : 1 ≤ length s.snapshot
  pub room : length s.snapshot ≤ max_snapshot
  pub few_votes : length s.votes ≤ max_votes
  pub votes_rise : IsTrue (are_votes_above s.position s.votes)
  pub few_pairs : length s.pairs ≤ max_votes
  pub pairs_rise : IsTrue (are_pairs_above s.position s.pairs)

-- no Base of this standing has more bytes: 98 beside the snapshot, 97 for each vote and 85 for each pair
abbrev pub base_room : StandingValue → ℕ
base_room s = 98 + length s.snapshot + 97 * length s.votes + 85 * length s.pairs

-- the Base of the next generation of a store, which has format 2
abbrev pub next_base : StoreValue → StandingValue → BaseValue
next_base s t = record { generation = s.generation + 1; format = 2; header = s.header; standing = t }

-- after a rebase the store has the next generation, format 2 and the same header; after an error the same file is
-- live, with the same generation, format and header
abbrev pub SwitchesFiles : {T : Type 0} → StoreValue → StoreValue → Result T StoreFault → Type 0
SwitchesFiles old new (Ok _) = (new.generation ≡ old.generation + 1) × (new.format ≡ 2) × (new.header ≡ old.header)
SwitchesFiles old new (Err e) = KeepsItsFile old new

-- the old file is empty, and the live one has at most this many bytes
abbrev pub LeavesEmpty : ℕ → StoreValue → Type 0
LeavesEmpty most s = (s.other_disk ≡ record { synced = []; unsynced = [] }) × (length (contents s.live_disk) ≤ most)

-- each image that a stop may leave of these disks has all of the first entries and a prefix of the others, or the new
-- Base alone
abbrev pub KeepsOrIs : (Side → Disk) → List Stored → List Stored → BaseValue → Type 0
KeepsOrIs disks first more b = (image : Image) → MayLeaveBoth disks image
    → ((k : ℕ) × IsLive image (first ++ take k more)) ⊎ IsLive image (Base b ∷ [])

-- ---- an opening

-- a file of that size is cut at the end of its entries, without a call if nothing follows them
abbrev pub cut_calls : ℕ → ℕ → ℕ
cut_calls end size = if nat_le size end then 0 else 1

-- the Base of a new store, which has format 2
abbrev pub first_base : HeaderValue → List ℕ → BaseValue
first_base h zero = record {
  generation = 1;
  format = 2;
  header = h;
  standing = record { promised = zero_ballot; position = 0; snapshot = zero; votes = []; pairs = [] };
}

-- the entries of the live file when it was read, or those of a new store if there was none
abbrev pub Found : Image → HeaderValue → List ℕ → List Stored → Type 0
Found before h zero es = IsLive before es ⊎ (IsEmpty before × (es ≡ Base (first_base h zero) ∷ []))

-- it is the standing of some entries
abbrev pub StandsForSome : StandingValue → Type 0
StandsForSome s = (es : List Stored) × StandsFor es s

-- these disks hold what an opening finds, all of it synced, under this header, with its format and with this standing
pub record OpensOn (before : Image) (h : HeaderValue) (zero : List ℕ) (live_disk other_disk : Disk)
    (generation_number format_number : ℕ) (standing : StandingValue) : Type 0 where
  pub entries : List Stored
  pub found : Found before h zero entries
  pub holds : HoldsOn live_disk other_disk entries []
  pub header : HasHeader entries h
  pub generation_is : generation_number ≡ generation entries
  pub format_is : format_number ≡ format entries
  pub stands : StandsFor entries standing

-- the same of an opened store
abbrev pub Opens : Image → HeaderValue → List ℕ → StoreValue → StandingValue → Type 0
Opens before h zero s = OpensOn before h zero s.live_disk s.other_disk s.generation s.format

-- whatever the device returned, an opened store has not failed and has this header, and some entries stand for the
-- standing
abbrev pub IsOpened : HeaderValue → StoreValue → StandingValue → Type 0
IsOpened h s standing = (s.failed ≡ false) × (s.header ≡ h) × StandsForSome standing

-- how many changing calls of the device an opening makes: three for a new store, and otherwise a cut, if something is
-- torn, and a sync
abbrev pub OpensBy : Image → ℕ → Type 0
OpensBy before k =
    (IsEmpty before × (k ≡ 3))
    ⊎ ((live : Side) × (es : List Stored) × IsLive before es × IsFile (before live) es false
    × (k ≡ cut_calls (length (spelling_of_all es)) (length (before live)) + 1))

-- whole entries with one Base, at the start: those that have a standing
pub record HasStanding (es : List Stored) : Type 0 where
  pub fit : AllByRecursion IsStored es
  pub base_first : is_misplaced es ≡ false
  pub based : 0 < generation es

-- the live file is another node's or of another genesis
abbrev pub IsWrong : Image → HeaderValue → Type 0
IsWrong before h = (es : List Stored) × IsLive before es × (HasHeader es h → ⊥)

-- the files are damaged, and unchanged
abbrev pub StaysDamaged : (Side → Disk) → (Side → Disk) → Type 0
StaysDamaged old new = IsDamaged (seen old) × ((s : Side) → new s ≡ old s)

-- the live file is another node's or of another genesis, and the files are unchanged
abbrev pub StaysWrong : (Side → Disk) → (Side → Disk) → HeaderValue → Type 0
StaysWrong old new h = IsWrong (seen old) h × ((s : Side) → new s ≡ old s)

-- the live file has this generation, this format and this standing
pub record Shows (before : Image) (generation_number format_number : ℕ) (standing : StandingValue) : Type 0 where
  pub entries : List Stored
  pub live : IsLive before entries
  pub generation_is : generation_number ≡ generation entries
  pub format_is : format_number ≡ format entries
  pub stands : StandsFor entries standing

-- each image of the new disks has the verdict and the entries of some image of the old ones, or is a new store if there
-- was none
abbrev pub NarrowsOrIsNew : (Side → Disk) → (Side → Disk) → HeaderValue → List ℕ → Type 0
NarrowsOrIsNew old new h zero = (image : Image) → MayLeaveBoth new image
    → ((before : Image) × MayLeaveBoth old before × SameMeaning before image)
    ⊎ (IsEmpty (seen old) × IsLive image (Base (first_base h zero) ∷ []))

-- each image of the new file parses to the entries of some image of the old one
abbrev pub FileNarrows : Disk → Disk → Type 0
FileNarrows old new = (c : List ℕ) → MayLeave new c → (b : List ℕ) × MayLeave old b
    × ((es : List Stored) (is_damaged : Bool) → IsFile b es is_damaged → IsFile c es is_damaged)

-- the live file of these disks as it was read: its whole entries, where they end, and how many bytes there are
pub record FoundLive (disks : Side → Disk) (live : Side) (es : List Stored) (end size : ℕ) : Type 0 where
  pub file : IsFile (contents (disks live)) es false
  pub base_first : is_misplaced es ≡ false
  pub older : IsOlder (disks (other live)) (generation es)
  pub ends : end ≡ length (spelling_of_all es)
  pub sized : size ≡ length (contents (disks live))

-- each image of a file is a prefix of what was there, or of these bytes
abbrev pub IsWrittenOver : Disk → List ℕ → Disk → Type 0
IsWrittenOver old bytes new =
    (c : List ℕ) → MayLeave new c → ((p : ℕ) × (c ≡ take p (contents old))) ⊎ ((p : ℕ) × (c ≡ take p bytes))
