-- The lines of an inspection.
use Rattle.std.specs.Prelude.{ℕ, ◌+◌, ◌==◌, ◌&&◌, Bool, Option, Some, None, List, [], ◌∷◌, ◌++◌, length, codes}
use Rattle.std.specs.Prelude.{if◌then◌else◌}
use Rattle.std.specs.Cmp.Lexicographic.{pointwise}
use Rattle.std.specs.List.{flat_map}
use Rattle.std.specs.Fmt.{decimal}
use Rattle.lk_types.specs.Limits.{max_client, max_names}
use Rattle.lk_types.specs.declared.member.Member.{Member}
use Rattle.lk_locks.specs.Packed.{Entry}
use Rattle.lk_locks.specs.declared.lock_entry.Holders.{Holders}
use Rattle.lk_locks.specs.declared.lock_entry.Holders.TheVariants.{Nobody, ExclusiveHold, SharedHold}
use Rattle.lk_inspect.specs.declared.inspection.Inspection.{Inspection}
use Rattle.lk_inspect.specs.declared.lines.Listing.{Listing}
use Rattle.lk_inspect.specs.declared.lines.Listing.TheVariants as listing

-- ---- members

-- a member, after a space
abbrev pub member_word : Member → List ℕ
member_word m = 32 ∷ (decimal m.node ++ (58 ∷ decimal m.port))

-- the members, to the end of a line
abbrev pub set_line : List Member → List ℕ
set_line ms = flat_map member_word ms ++ 10 ∷ []

-- the members from this position on
abbrev pub change_line : ℕ → List Member → List ℕ
change_line position ms = codes "members from " ++ (decimal position ++ set_line ms)

-- both are the same nodes at the same ports
abbrev pub are_same : List Member → List Member → Bool
are_same ms others = pointwise (λ (m n : Member). m.node == n.node && m.port == n.port) ms others

-- a line for each of these sets that is not the one before it: the first is of this position, each other of the next
abbrev pub later_lines : ℕ → List Member → List (List Member) → List ℕ
later_lines position before [] = []
later_lines position before (ms ∷ sets) =
    (if are_same ms before then [] else change_line position ms) ++ later_lines (position + 1) ms sets

-- the members of the next position, and those of each later one that differ from the ones before
abbrev pub window_lines : ℕ → List (List Member) → List ℕ
window_lines executed [] = []
window_lines executed (ms ∷ sets) = codes "members" ++ (set_line ms ++ later_lines (executed + 2) ms sets)

-- ---- names

-- a client holds a name by a fence
abbrev pub holder_line : List ℕ → ℕ → ℕ → List ℕ
holder_line name client fence = codes "held " ++ (name ++ (32 ∷ (decimal client ++ (32 ∷ (decimal fence ++ 10 ∷ [])))))

-- nobody holds a name, and this was its last fence
abbrev pub free_line : List ℕ → ℕ → List ℕ
free_line name fence = codes "free " ++ (name ++ (32 ∷ (decimal fence ++ 10 ∷ [])))

-- where all names are listed, a free one is too
abbrev pub free_lines : Listing → List ℕ → ℕ → List ℕ
free_lines listing.Held name fence = []
free_lines listing.All name fence = free_line name fence

-- a line for each of the clients that share a name
abbrev pub sharer_lines : List ℕ → ℕ → List ℕ → List ℕ
sharer_lines name fence clients = flat_map (λ client. holder_line name client fence) clients

-- the lines of a name by who holds it
abbrev pub holders_lines : Listing → List ℕ → ℕ → Holders → List ℕ
holders_lines which name fence Nobody = free_lines which name fence
holders_lines which name fence (ExclusiveHold client) = holder_line name client fence
holders_lines which name fence (SharedHold clients) = sharer_lines name fence clients

abbrev pub name_lines : Listing → Entry → List ℕ
name_lines which e = holders_lines which e.0 e.1.fence e.1.holders

abbrev pub names_lines : Listing → List Entry → List ℕ
names_lines which es = flat_map (name_lines which) es

-- ---- of all

-- a count, and the most that it can be
abbrev pub count_line : List ℕ → ℕ → ℕ → List ℕ
count_line name count most = name ++ (32 ∷ (decimal count ++ (codes " of " ++ (decimal most ++ 10 ∷ []))))

abbrev pub executed_line : ℕ → List ℕ
executed_line executed = codes "executed " ++ (decimal executed ++ 10 ∷ [])

-- how many names and clients there are
abbrev pub counts_lines : ℕ → ℕ → List ℕ
counts_lines names clients =
    count_line (codes "names") names max_names ++ count_line (codes "clients") clients max_client

abbrev pub inspection_text : Listing → Inspection → List ℕ
inspection_text which i =
    executed_line i.executed
    ++ (window_lines i.executed i.window
    ++ (counts_lines (length i.names.items) i.clients ++ names_lines which i.names.items))

-- the text of what was found in a store
abbrev pub state_text : Listing → Option Inspection → List ℕ
state_text which None = codes "no store\n"
state_text which (Some i) = inspection_text which i
