-- Which address a node asks for a genesis, and what it records of a report.
use Rattle.std.specs.Prelude.{◌≡◌, ◌≢◌, ◌⊎◌, ℕ, false, [], Option, Some, None, slice_get}
use Rattle.std.specs.List.{list_any}
use Rattle.std.specs.declared.net.socket_addr.SocketAddr.{SocketAddr}
use Rattle.lk_probe.specs.Neighbours.{ProbesNeighbour, Learns, entry_for, is_due_at, is_open_at}
use Rattle.lk_probe.specs.declared.neighbours.Neighbour.{Neighbour}
use Rattle.lk_probe.specs.declared.reported.Reported.{Reported}
use Rattle.lk_auth.specs.Seals.{key_list}
use Rattle.lk_address_book.specs.Addresses.{AddressBook}

-- a question is due at that address, and is noted as sent at that count of ticks; or nothing is due, or the nodes have
-- a key, and nothing changes
abbrev pub IsAskedAt : ℕ → Option SocketAddr → AddressBook → AddressBook → Type 0
IsAskedAt now (Some address) old new =
    (key_list old.seals.nodes ≡ []) × ProbesNeighbour now address old.neighbours new.neighbours
    × (new ≡ record old { neighbours = new.neighbours })
IsAskedAt now None old new =
    ((key_list old.seals.nodes ≢ []) ⊎ (list_any (is_due_at now) old.neighbours ≡ false)) × (new ≡ old)

-- a report's genesis is recorded for its address, if it replies to the question of the node of that number, and that
-- address was asked and had not answered; any other report changes nothing
abbrev pub LearnsOf : ℕ → Reported → Option Neighbour → AddressBook → AddressBook → Type 0
LearnsOf node r (Some n) old new =
    (r.token ≡ node) × Learns r.from old.seals.genesis r.reporter n old.neighbours new.neighbours
    × (new ≡ record old { neighbours = new.neighbours })
LearnsOf node r None old new =
    ((r.token ≢ node) ⊎ (is_open_at (slice_get old.neighbours (entry_for r.from old.neighbours)) ≡ false))
    × (new ≡ old)

-- the same for a kept report, if there is one
abbrev pub LearnsKept : ℕ → Option Reported → AddressBook → AddressBook → Type 0
LearnsKept node None old new = new ≡ old
LearnsKept node (Some r) old new = (n : Option Neighbour) × LearnsOf node r n old new
