-- The packed text of a table.
use Rattle.std.specs.Prelude.{◌≡◌, ℕ, ◌≤◌, Bool, true, false, nat_le, ◌==◌, List, [], ◌∷◌, ◌++◌, length, Option, Some}
use Rattle.std.specs.Prelude.{None, if◌then◌else◌, IsTrue}
use Rattle.std.specs.List.{flat_map, AllByRecursion}
use Rattle.std.specs.Ordering.{nat_cmp}
use Rattle.std.specs.Cmp.Lexicographic.{slice_cmp}
use Rattle.std.specs.FinMap as map
use Rattle.lk_types.specs.Limits.{max_client, max_sharers}
use Rattle.lk_types.specs.Ranges.{IsCount}
use Rattle.lk_codec.specs.Fields.{one, two, eight}
use Rattle.lk_codec.specs.FieldReading.{is_from_1_to, read_two, read_client, read_count}
use Rattle.lk_codec.specs.Parser.{◌>>=◌, read_byte, both, made, tested, tagged, kind, bare, no_kind, counted, whole}
use Rattle.lk_locks.specs.Names.{IsName}
use Rattle.lk_locks.specs.Bodies.{lock_name, read_name}
use Rattle.lk_locks.specs.Holders.{IsHolders, is_kept}
use Rattle.lk_locks.specs.Sharers.{are_clients_above}
use Rattle.lk_locks.specs.Plain.{Table, Names, empty}
use Rattle.lk_locks.specs.declared.lock_entry.Holders.{Holders}
use Rattle.lk_locks.specs.declared.lock_entry.Holders.TheVariants.{Nobody, ExclusiveHold, SharedHold}
use Rattle.lk_locks.specs.declared.lock_entry.LockEntry.{LockEntry}

-- a name and its lock entry
abbrev pub Entry : Type 0
Entry = List ℕ × LockEntry

-- the holder as a table that was not raised has it: 0 for nobody
abbrev pub holder_number : Holders → ℕ
holder_number Nobody = 0
holder_number (ExclusiveHold client) = client
holder_number (SharedHold clients) = 0

-- the mode that precedes the holders in a raised table
abbrev pub mode : Holders → ℕ
mode Nobody = 0
mode (ExclusiveHold client) = 1
mode (SharedHold clients) = 2

abbrev pub sharers : List ℕ → List ℕ
sharers clients = one (length clients) ++ flat_map two clients

abbrev pub in_mode : Holders → List ℕ
in_mode Nobody = []
in_mode (ExclusiveHold client) = two client
in_mode (SharedHold clients) = sharers clients

abbrev pub holders : Bool → Holders → List ℕ
holders false h = two (holder_number h)
holders true h = mode h ∷ in_mode h

-- the last fence, and then who holds it
abbrev pub lock_entry : Bool → LockEntry → List ℕ
lock_entry raised s = eight s.fence ++ holders raised s.holders

abbrev pub entry : Bool → Entry → List ℕ
entry raised e = lock_name e.0 ++ lock_entry raised e.1

-- how many names, and then each with its lock entry
abbrev pub entries : Bool → List Entry → List ℕ
entries raised es = two (length es) ++ flat_map (entry raised) es

-- ff02: no table has this many names, and so no text of a table that was not raised begins like this
abbrev pub raised_mark : ℕ
raised_mark = 65282

abbrev pub packed_table : Bool × List Entry → List ℕ
packed_table (false, es) = entries false es
packed_table (true, es) = two raised_mark ++ entries true es

-- the packed text of a table: its entries, rising by name, after the mark if it was raised
unfoldable pub table_text : Table → List ℕ
table_text t = packed_table (t.raised, map.entries t.names)

-- ---- which tables there are

-- the fence and the holders are in range, and a table of this version may have such holders
abbrev pub IsLockEntryIn : Bool → LockEntry → Type 0
IsLockEntryIn raised s = IsCount s.fence × (IsHolders s.holders × IsTrue (is_kept raised s.holders))

abbrev pub IsLockEntry : LockEntry → Type 0
IsLockEntry s = IsCount s.fence × IsHolders s.holders

abbrev pub IsTableEntry : Bool → Entry → Type 0
IsTableEntry raised e = IsName e.0 × IsLockEntryIn raised e.1

-- at most 512 names
unfoldable pub AreNames : Bool → Names → Type 0
AreNames raised m = (map.len m ≤ 512) × AllByRecursion (IsTableEntry raised) (map.entries m)

abbrev pub IsTable : Table → Type 0
IsTable t = AreNames t.raised t.names

-- the bytes are the text of a table
abbrev pub IsTableText : List ℕ → Type 0
IsTableText bytes = (t : Table) × IsTable t × (bytes ≡ table_text t)

-- ---- the same, from the bytes to the table

abbrev pub holder_of : ℕ → Holders
holder_of number = if number == 0 then Nobody else ExclusiveHold number

unfoldable pub read_holder : List ℕ → Option (Holders × List ℕ)
read_holder = made holder_of (tested (λ n. nat_le n max_client) read_two)

unfoldable pub read_sharers : List ℕ → Option (List ℕ × List ℕ)
read_sharers = tested (are_clients_above 0) (counted (tested (is_from_1_to max_sharers) read_byte) read_client)

unfoldable pub holders_of : ℕ → List ℕ → Option (Holders × List ℕ)
holders_of = kind 0 (bare Nobody) (kind 1 (made ExclusiveHold read_client)
    (kind 2 (made SharedHold read_sharers) no_kind))

abbrev pub read_holders : Bool → List ℕ → Option (Holders × List ℕ)
read_holders false = read_holder
read_holders true = tagged holders_of

unfoldable pub read_lock_entry : Bool → List ℕ → Option (LockEntry × List ℕ)
read_lock_entry raised = made (λ s. record { fence = s.0; holders = s.1 }) (both read_count (read_holders raised))

unfoldable pub read_entry : Bool → List ℕ → Option (Entry × List ℕ)
read_entry raised = both read_name (read_lock_entry raised)

unfoldable pub read_size : List ℕ → Option (ℕ × List ℕ)
read_size = tested (λ n. nat_le n 512) read_two

-- whether the names rise strictly, in the order of their bytes
abbrev pub rise : List Entry → Bool
rise es = map.is_sorted (slice_cmp nat_cmp) es

unfoldable pub read_entries : Bool → List ℕ → Option (List Entry × List ℕ)
read_entries raised = tested rise (counted read_size (read_entry raised))

-- reads the names, from behind the mark if there is one
abbrev pub read_by : Bool → List ℕ → List ℕ → Option ((Bool × List Entry) × List ℕ)
read_by true behind bytes = made (λ es. (true, es)) (read_entries true) behind
read_by false behind bytes = made (λ es. (false, es)) (read_entries false) bytes

unfoldable pub read_table : List ℕ → Option ((Bool × List Entry) × List ℕ)
read_table bytes = read_two bytes >>= λ n. read_by (n.0 == raised_mark) n.1 bytes

-- nothing was read, or its names do not rise
abbrev pub DoNotRise : Option (List Entry × List ℕ) → Type 0
DoNotRise None = Unit {0}
DoNotRise (Some read) = rise read.0 ≡ false

-- the table that some entries make
abbrev pub table_of_entries : Option (Bool × List Entry) → Table
table_of_entries (Some v) = record { raised = v.0; names = map.from_sorted v.1 }
table_of_entries None = empty

-- the table whose text the bytes are; the empty one if they are not a text
unfoldable pub table_in : List ℕ → Table
table_in bytes = table_of_entries (whole read_table bytes)
