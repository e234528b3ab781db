-- How much longer a file is after a call.
use Rattle.std.proofs.Common.{◌≡◌, ℕ, ◌+◌, ◌*◌, ◌≤◌, ◌<◌, max, Bool, true, false, leb, List, [], ◌∷◌, ◌++◌, length}
use Rattle.std.proofs.Common.{take, ap, sym, ◌∙◌, subst, inl, inr, refl, arith, length-append, append-nil}
use Rattle.std.specs.Prelude.{if◌then◌else◌}
use Rattle.std.specs.List.{AllByRecursion}
use Rattle.std.proofs.Math.Seq.{take-length}
use Rattle.std.proofs.lemmas.Bool.{leb-true}
use Rattle.std.proofs.lemmas.List.{length-take}
use Rattle.lk_types.specs.Limits.{max_base_of}
use Rattle.lk_types.specs.declared.entry.Entry.{Entry}
use Rattle.lk_types.specs.declared.entry.Entry.TheVariants.{Promise, Vote, Decided}
use Rattle.lk_codec.specs.Fields.{four, eight}
use Rattle.lk_disk.specs.Disk.{Disk, other, contents, appended, fully_synced, cut_to, AppendsSome, CutShort}
use Rattle.lk_disk.specs.declared.device.Side.{Side}
use Rattle.lk_disk.specs.declared.device.Side.TheVariants.{A, B}
use Rattle.lk_disk.proofs.Devices.{contents_may_be_left}
use Rattle.lk_store_format.specs.Entries.{body, spelling, spelling_of_all, IsEntry, IsStored, plain}
use Rattle.lk_store_format.specs.Values.{BaseValue}
use Rattle.lk_store_format.specs.declared.stored.Stored.{Stored}
use Rattle.lk_store_format.specs.declared.stored.Stored.TheVariants.{Base, Plain}
use Rattle.lk_store_format.proofs.EntryLaws.{len_ballot, len_command, body_short}
use Rattle.lk_log.specs.Stores.{IsWrittenOver}
use Rattle.lk_log.specs.Rooms.{StaysWithin}
use Rattle.lk_log.specs.StoreValue.{StoreValue, pick, disks}

-- an entry that is no Base has at most 102 bytes: a vote is the longest
entry_room : (e : Entry) → IsEntry e → length (spelling (Plain e)) ≤ 102
unfolding spelling four eight
entry_room (Promise b) f = omega (arith, len_ballot b)
entry_room (Vote v) f = omega (arith, len_command v.command f.2)
entry_room (Decided position c) f = omega (arith, len_command c f.1)

entries_room : (es : List Entry) → AllByRecursion IsStored (plain es)
    → length (spelling_of_all (plain es)) ≤ 102 * length es
entries_room [] f = omega arith
entries_room (e ∷ es) f =
    omega (
      arith,
      length-append (spelling (Plain e)) (spelling_of_all (plain es)),
      entry_room e f.0,
      entries_room es f.1,
    )

longer : (old : Disk) (piece : List ℕ) → length (contents (appended old piece)) ≡ length (contents old) + length piece
longer old piece =
    length-append old.synced (old.unsynced ++ piece)
    ∙ omega (arith, length-append old.synced old.unsynced, length-append old.unsynced piece)

-- some of the entries' bytes were added
pub some_room : (old new : Disk) (bytes : List ℕ) (es : List Entry) → bytes ≡ spelling_of_all (plain es)
    → AllByRecursion IsStored (plain es) → AppendsSome bytes old new
    → length (contents new) ≤ length (contents old) + 102 * length es
some_room old new bytes es is fits k =
    omega (
      arith,
      ap (λ d. length (contents d)) k.1,
      longer old (take k.0 bytes),
      length-take k.0 bytes,
      ap length is,
      entries_room es fits,
    )

-- all of them
pub all_room : (old new : Disk) (bytes : List ℕ) (es : List Entry) → bytes ≡ spelling_of_all (plain es)
    → AllByRecursion IsStored (plain es) → new ≡ appended old bytes
    → length (contents new) ≤ length (contents old) + 102 * length es
all_room old new bytes es is fits e =
    some_room old new bytes es is fits (length bytes, e ∙ ap (appended old) (sym (take-length bytes)))

-- a sync adds none
pub synced_room : (old new : Disk) → new ≡ fully_synced old → length (contents new) ≡ length (contents old)
synced_room old new e = ap (λ d. length (contents d)) e ∙ ap length (append-nil (contents old))

-- ---- what an opening leaves

pub within_same : (most : ℕ) (old new : Side → Disk) → ((s : Side) → new s ≡ old s) → StaysWithin most old new
within_same most old new same s = omega (arith, ap (λ d. length (contents d)) (same s))

pub within_then : (most : ℕ) (old mid new : Side → Disk) → StaysWithin 0 old mid → StaysWithin most mid new
    → StaysWithin most old new
within_then most old mid new a b s = omega (arith, a s, b s)

pub within_more : (most : ℕ) (old new : Side → Disk) → StaysWithin 0 old new → StaysWithin most old new
within_more most old new a s = omega (arith, a s)

-- one side is as long as this at most, and the other one as it was
pub within_side : (most : ℕ) (side : Side) (old new : Side → Disk)
    → length (contents (new side)) ≤ max (length (contents (old side))) most → new (other side) ≡ old (other side)
    → StaysWithin most old new
within_side most A old new here there A = here
within_side most A old new here there B = omega (arith, ap (λ d. length (contents d)) there)
within_side most B old new here there A = omega (arith, ap (λ d. length (contents d)) there)
within_side most B old new here there B = here

pub cut_short_room : (n : ℕ) (old new : Disk) → CutShort n old new → length (contents new) ≤ length (contents old)
cut_short_room n old new k = omega (arith, ap length k.front, length-take (length (contents new)) (contents old))

pub cut_room : (n : ℕ) (old new : Disk) → new ≡ cut_to n old → length (contents new) ≤ length (contents old)
cut_room n old new e = omega (
  arith,
  ap (λ d. length (contents d)) e,
  ap length (append-nil (take n (contents old))),
  length-take n (contents old),
)

-- what was written over is no longer than what stood there, or than what was written
pub over_room : (old : Disk) (bytes : List ℕ) (new : Disk) → IsWrittenOver old bytes new
    → length (contents new) ≤ max (length (contents old)) (length bytes)
over_room old bytes new over = elim (over (contents new) (contents_may_be_left new)) [
  | inl front ↦ omega (arith, ap length front.1, length-take front.0 (contents old))
  | inr front ↦ omega (arith, ap length front.1, length-take front.0 bytes)
]

-- an entry has at most 65,536 bytes
pub spelling_room : (e : Stored) → IsStored e → length (spelling e) ≤ 65536
unfolding spelling four
spelling_room e f = omega (arith, body_short e f)

-- with its length an entry has four bytes more
pub spelled_room : (e : Stored) (most : ℕ) → 4 + length (body e) ≤ most → length (spelling e) ≤ most
unfolding spelling four
spelled_room e most few = omega (arith, few)

-- a Base that was written over
pub begun_room : (b : BaseValue) (most : ℕ) (old new : Disk) → length (spelling (Base b)) ≤ most
    → IsWrittenOver old (spelling (Base b)) new → length (contents new) ≤ max (length (contents old)) most
begun_room b most old new few over = omega (arith, over_room old (spelling (Base b)) new over, few)

-- so of the disks of a store that was made of the device
pub within_pick : (most : ℕ) (live : Side) (old new : Side → Disk) → StaysWithin most old new
    → StaysWithin most old (pick live (new live) (new (other live)))
within_pick most A old new w A = w A
within_pick most A old new w B = w B
within_pick most B old new w A = w A
within_pick most B old new w B = w B

-- or was, before it was made
pub within_from : (most : ℕ) (live : Side) (old new : Side → Disk) → StaysWithin most old new
    → StaysWithin most (pick live (old live) (old (other live))) new
within_from most A old new w A = w A
within_from most A old new w B = w B
within_from most B old new w A = w A
within_from most B old new w B = w B

-- ---- what a rebase leaves

pub within_still : (most : ℕ) (old mid new : Side → Disk) → StaysWithin most old mid → StaysWithin 0 mid new
    → StaysWithin most old new
within_still most old mid new a b s = omega (arith, a s, b s)

pub written_room : (most : ℕ) (side : Side) (old new : Side → Disk) (bytes : List ℕ) → length bytes ≤ most
    → IsWrittenOver (old side) bytes (new side) → new (other side) ≡ old (other side) → StaysWithin most old new
written_room most side old new bytes few over beside =
    within_side most side old new (omega (arith, over_room (old side) bytes (new side) over, few)) beside

pub short_room : (most : ℕ) (d : Disk) (bytes : List ℕ) → d ≡ record { synced = bytes; unsynced = [] }
    → length bytes ≤ most → length (contents d) ≤ most
short_room most d bytes e few = omega (arith, ap (λ x. length (contents x)) e, ap length (append-nil bytes), few)

-- what stays within so much stays within more
pub within_wider : (few most : ℕ) (old new : Side → Disk) → few ≤ most → StaysWithin few old new
    → StaysWithin most old new
within_wider few most old new less stays s = omega (arith, stays s, less)

-- ---- the longest Base of an alpha

most_if : (narrow : Bool) → (if narrow then 49152 else 65536) ≤ 65536
most_if true = omega arith
most_if false = omega arith

-- it fits every file's bound
pub most_base : (alpha : ℕ) → max_base_of alpha ≤ 65536
unfolding max_base_of
most_base alpha = most_if (leb alpha 32)

least_if : (narrow : Bool) → 49152 ≤ (if narrow then 49152 else 65536)
least_if true = omega arith
least_if false = omega arith

-- a new store's Base is no longer, whatever alpha is
pub least_base : (alpha : ℕ) → 49152 ≤ max_base_of alpha
unfolding max_base_of
least_base alpha = least_if (leb alpha 32)

within_if : (narrow : Bool) (alpha n : ℕ) → leb alpha 32 ≡ narrow → alpha ≤ 64 → n ≤ 36128 + 407 * alpha
    → n ≤ (if narrow then 49152 else 65536)
within_if true alpha n is small few = omega (arith, leb-true alpha 32 is, few)
within_if false alpha n is small few = omega (arith, small, few)

-- 98 bytes, a machine of 30,631, 256 sessions of 21, and 407 for each position that is open: a set of members, two
-- votes and two pairs
pub base_within : (alpha n : ℕ) → alpha ≤ 64 → n ≤ 36128 + 407 * alpha → n ≤ max_base_of alpha
unfolding max_base_of
base_within alpha n = within_if (leb alpha 32) alpha n refl

pub within_first : (most : ℕ) (old mid new : Side → Disk) → StaysWithin most old mid → StaysWithin most mid new
    → StaysWithin most old new
within_first most old mid new a b s = omega (arith, a s, b s)

-- ---- a step, after a rebase that is due

-- a rebase was refused
pub refused_room : (most : ℕ) (old new : Side → Disk) → most ≤ 65536 → StaysWithin most old new
    → StaysWithin 132704 old new
refused_room most old new small stays s = omega (arith, small, stays s)

-- where a rebase was due it was done, and so the live file has less than 131,072 bytes: a step of at most 1,632 stands
-- after it
behind : (live : Side) (old mid new : Side → Disk) → StaysWithin 65536 old mid → length (contents (mid live)) < 131072
    → length (contents (new live)) ≤ length (contents (mid live)) + 1632 → new (other live) ≡ mid (other live)
    → StaysWithin 132704 old new
behind A old mid new stays small grows beside A = omega (arith, small, grows)
behind A old mid new stays small grows beside B = omega (arith, stays B, ap (λ d. length (contents d)) beside)
behind B old mid new stays small grows beside A = omega (arith, stays A, ap (λ d. length (contents d)) beside)
behind B old mid new stays small grows beside B = omega (arith, small, grows)

pub behind_room : (old : Side → Disk) (mid new : StoreValue) → StaysWithin 65536 old (disks mid)
    → length (contents mid.live_disk) < 131072 → new.live ≡ mid.live
    → length (contents new.live_disk) ≤ length (contents mid.live_disk) + 1632 → new.other_disk ≡ mid.other_disk
    → StaysWithin 132704 old (disks new)
behind_room old mid new stays small is grows beside =
    subst (λ (side : Side). StaysWithin 132704 old (pick side new.live_disk new.other_disk))
    (sym is) (on mid.live stays)
  where
    on : (side : Side) → StaysWithin 65536 old (pick side mid.live_disk mid.other_disk)
        → StaysWithin 132704 old (pick side new.live_disk new.other_disk)
    on A stays = behind A old (pick A mid.live_disk mid.other_disk)
        (pick A new.live_disk new.other_disk) stays small grows beside
    on B stays = behind B old (pick B mid.live_disk mid.other_disk)
        (pick B new.live_disk new.other_disk) stays small grows beside

-- so the promise: where neither file held more in front, neither holds more after
pub never_longer : (old new : Side → Disk) → StaysWithin 132704 old new
    → ((s : Side) → length (contents (old s)) ≤ 262144) → (s : Side) → length (contents (new s)) ≤ 262144
never_longer old new stays before s = omega (arith, stays s, before s)
