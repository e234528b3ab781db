-- Which probes make the address of a node known.
use Rattle.std.specs.Prelude.{◌≡◌, ◌⊎◌, ◌==◌, ◌&&◌, ℕ, nat_eq, Bool, true, false, not, is_some, List, [], ◌∷◌}
use Rattle.std.specs.Prelude.{Option, Some, None, if◌then◌else◌}
use Rattle.std.specs.Cmp.Lexicographic.{pointwise}
use Rattle.std.specs.declared.net.socket_addr.SocketAddr.{SocketAddr}
use Rattle.lk_auth.specs.Seals.{key_list}
use Rattle.lk_probe.specs.declared.neighbours.Origin.{Origin}
use Rattle.lk_address_book.specs.Addresses.{AddressBook, node_at}
use Rattle.lk_address_book.specs.Senders.{RecordsNode}
use Rattle.lk_types.specs.declared.member.Member.{Member}

-- the port of a node among these members
abbrev pub port_among : List Member → ℕ → Option ℕ
port_among [] node = None
port_among (m ∷ ms) node = if m.node == node then Some m.port else port_among ms node

-- the node that a probe names is another one than this, of the same genesis, and one of these members
abbrev pub is_of_member : ℕ → List ℕ → List Member → Origin → Bool
is_of_member own genesis ms o =
    pointwise nat_eq o.genesis genesis && (not (o.node == own) && is_some (port_among ms o.node))

-- a probe may give a node its address: without a key, by which it was sealed, only if none is known
abbrev pub MayMove : AddressBook → ℕ → Type 0
MayMove b node = key_list b.seals.nodes ≡ [] → node_at b node ≡ None

-- the address of such a probe is recorded as that of a node that wrote and does not lead; any other changes nothing
abbrev pub RecordsProber : ℕ → List Member → Option Origin → SocketAddr → AddressBook → AddressBook → Type 0
RecordsProber own ms None from old new = new ≡ old
RecordsProber own ms (Some o) from old new =
    ((is_of_member own old.seals.genesis ms o ≡ true) × MayMove old o.node × RecordsNode o.node from false old new)
    ⊎ ((is_of_member own old.seals.genesis ms o ≡ true → MayMove old o.node → ⊥) × (new ≡ old))
